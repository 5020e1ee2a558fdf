use Rattle.std.proofs.Common.{rules, refl, sym, subst}
use Rattle.coap_layer.specs.Ids.{numbers}
use Rattle.coap_layer.specs.Machine.IdState.{IdState, Led, uses_of}
use Rattle.coap_layer.proofs.Numbers.StepsOfASource.{gave_led}
use Rattle.coap_layer.proofs.message_id.IdSource.next.Goals as goal

pub returns-clause-led : goal.returns-clause-led
returns-clause-led c word t led =
    let s : IdState = record {
      clock = c.self.inside.clock.0;
      upcoming = c.self.inside.upcoming;
      last_used = uses_of c.self.inside.last_used;
    } in
    let before : Led word t s = subst (λ x. Led word t x) (sym c.self.view_is) led in
    gave_led word t s c.give-2.new.self c.args.now.0 c.later-self-inside.result.0 c.give-2.result
    (cc c.later-self-inside.ensures) (search rules) before
    (c.if-not-may_give.ensures.yes word (numbers t) before.kept.upcoming before.kept.last_used refl)
    (search rules) (search rules)
