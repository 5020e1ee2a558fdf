use Rattle.std.proofs.Common.{◌∙◌, inr, sym, ap, refl, is_some, true≢false}
use Rattle.std.specs.Map.{lookup}
use Rattle.coap_types.specs.SameEndpoint.{same_endpoint}
use Rattle.coap_names.proofs.Lists.{some_of}
use Rattle.coap_names.proofs.names.Names.release_at.Goals as goal

pub returns-then-contains-clause-does : goal.returns-then-contains-clause-does
returns-then-contains-clause-does g c =
    let v = c.self.view_is in
    let test = g.K.PartialEq.eq c.in-Some.key in
    let place = some_of (lookup test c.self.inside.idle.entries) (sym c.contains.ensures ∙ c.if-contains.true) in
    inr (inr (
      (
        c.in-Some.key,
        record {
          keyed = ap (λ s. lookup (same_endpoint c.args.name.now) s.keys) (sym v)
              ∙ (sym c.key_at.ensures ∙ c.in-Some.is);
          place = place.0;
          found = ap (λ s. lookup test s.idle) (sym v) ∙ place.1;
        },
      ),
      record { answer_is = refl; new_is = λ j. record (v j) { clock = c.args.at.0 } },
    ))

pub returns-then-is_err-clause-quiet : goal.returns-then-is_err-clause-quiet
returns-then-is_err-clause-quiet g c idle =
    let v = c.self.view_is in
    let key = c.in-Some.key in
    let test = g.K.PartialEq.eq key in
    let known = ap (λ s. lookup (same_endpoint c.args.name.now) s.keys) (sym v)
    ∙ (sym c.key_at.ensures ∙ c.in-Some.is) in
    let some = ap (λ s. is_some (lookup test s.idle)) v ∙ idle key known in
    absurd (true≢false (sym some ∙ (sym c.contains.ensures ∙ c.if-contains.false)))
