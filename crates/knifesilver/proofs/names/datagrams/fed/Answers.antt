use Rattle.std.proofs.Common.{OnErr, refl, subst, sym, pos, Some}
use Rattle.coap_names.specs.Trace.{Named}
use Rattle.knifesilver.specs.declared.held.Held.TheVariants.{Names}
use Rattle.knifesilver.specs.NamesCalls.{IsNamed}
use Rattle.knifesilver.specs.NamesHeld.{HoldsNamesIn, IsNamesIn}
use Rattle.knifesilver.proofs.names.datagrams.fed.Goals as goal

pub returns-in-Ok-clause-led : goal.returns-in-Ok-clause-led
returns-in-Ok-clause-led c = λ _.
    let given = c.args in
    let named = c.in-Ok.ensures in
    subst (IsNamesIn (λ s. HoldsNamesIn (λ t. IsNamed given.now given.key.now (pos 0) c.address.result s t)
    (Some (Names c.name_of.new.self)))) (sym c.in-Names.is) (
      Named c.in-Ok.endpoint,
      (refl, c.address.ensures),
      record {
        step = named.step (λ is. subst (λ r. OnErr r ⊥) is tt);
        leads = named.led (λ is. subst (λ r. OnErr r ⊥) is tt);
      },
    )
