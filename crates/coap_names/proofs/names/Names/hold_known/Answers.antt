use Rattle.std.proofs.Common.{◌≡◌, ◌∙◌, ◌+◌, inl, inr, Some, length, sym, ap, refl, cond, arith}
use Rattle.std.specs.Map.{lookup, remove_entry}
use Rattle.coap_types.specs.SameEndpoint.{same_endpoint}
use Rattle.coap_names.proofs.Lists.{length-removed, some_of}
use Rattle.coap_names.proofs.names.Names.hold_known.Goals as goal

pub returns-in_ok-reserve-in-Some-clause-does : goal.returns-in_ok-reserve-in-Some-clause-does
returns-in_ok-reserve-in-Some-clause-does g c =
    let v = c.self.view_is in
    let key = c.in-Some.key in
    let test = g.K.PartialEq.eq key in
    let place = some_of (lookup test c.self.inside.idle.entries)
    (sym c.contains-may_be_lost.ensures ∙ c.if-may_be_lost.true) in
    let held = c.in_ok-reserve-in-Some.ensures.entries ∙ ap (λ s. s.held) v in
    inr (inl (
      key,
      record {
        is_idle = record {
          keyed = ap (λ s. lookup (same_endpoint c.args.name.now) s.keys) (sym v)
              ∙ (sym c.key_at.ensures ∙ c.in-Some.is);
          place = place.0;
          found = ap (λ s. lookup test s.idle) (sym v) ∙ place.1;
        };
        answer_is = refl;
        setup = ap (λ s. s.setup) v;
        clock = ap (λ s. s.clock) v;
        given = ap (λ s. s.given) v;
        idle = c.take_out.ensures.entries ∙ ap (λ s. remove_entry test s.idle) v;
        held = λ q. c.put_held.ensures.held q
            ∙ ap (λ es. cond (test q) (Some c.args.name.now) (lookup (g.K.PartialEq.eq q) es)) held;
        fewer = ap (λ es. length es + 1) c.take_out.ensures.entries
            ∙ (length-removed test c.self.inside.idle.entries place.0 place.1 ∙ ap (λ s. length s.idle) v);
        longer = (let same : length c.reserve.new.self.entries ≡ length c.args.self.now.held = ap length held in
            let most = c.put_held.ensures.longer in omega arith);
        keys = ap (λ s. s.keys) v;
      },
    ))

pub returns-in_err-reserve-in-Some-clause-quiet : goal.returns-in_err-reserve-in-Some-clause-quiet
returns-in_err-reserve-in-Some-clause-quiet g c held =
    let v = c.self.view_is in
    let key = c.in-Some.key in
    let test = g.K.PartialEq.eq key in
    let place = some_of (lookup test c.self.inside.idle.entries)
    (sym c.contains-may_be_lost.ensures ∙ c.if-may_be_lost.true) in
    let known = ap (λ s. lookup (same_endpoint c.args.name.now) s.keys) (sym v)
    ∙ (sym c.key_at.ensures ∙ c.in-Some.is) in
    let none = ap (λ s. lookup test s.idle) v ∙ held key known in
    absurd (let some = place.1 in cc)
