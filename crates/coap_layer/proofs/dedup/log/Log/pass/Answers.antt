use Rattle.std.proofs.Common.{◌≡◌, ◌≤◌, ◌<◌, ◌+◌, ◌-◌, ◌++◌, ℕ, [], ◌∷◌, None, Some, length, drop, arith, rules, ap}
use Rattle.std.proofs.Common.{sym, subst, ◌∙◌, refl}
use Rattle.std.specs.List.{IsDistinct}
use Rattle.std.specs.Map.{keys_of}
use Rattle.coap_layer.specs.Machine.Chains.{Logged, entries_of}
use Rattle.coap_layer.proofs.Calls.Chained.{chains_pass, distinct_left, length_left_of, passed_more_of}
use Rattle.coap_layer.proofs.dedup.log.Log.pass.Goals as goal

pub overflow_add-self : goal.overflow_add-self
overflow_add-self g c =
    let s = c.self.inside in
    let few = c.len-held.ensures.few in
    let len = c.len-held.ensures.len in
    let left = length_left_of s.passed s.pages.items c.self.invariant.0 in
    let within = subst (λ (v : Logged g.row.K.Denot g.row.V.Denot). c.args.passed ≤ length v.entries)
    (sym c.self.view_is) c.requires in
    omega (arith, few, len, left, within)

pub invariant_of-self : goal.invariant_of-self
invariant_of-self g c =
    let s = c.self.inside in
    let left = length_left_of s.passed s.pages.items c.self.invariant.0 in
    let within = subst (λ (v : Logged g.row.K.Denot g.row.V.Denot). c.args.passed ≤ length v.entries)
    (sym c.self.view_is) c.requires in (
      omega (arith, left, within),
      c.self.invariant.1,
      c.self.invariant.2,
      c.self.invariant.3,
      subst (λ es. IsDistinct g.K.PartialEq.eq (keys_of es)) (sym (passed_more_of s.passed c.args.passed s.pages.items))
          (distinct_left g.K.PartialEq.eq g.met.K.Eq.laws c.args.passed (entries_of s.passed s.pages.items)
          c.self.invariant.4),
      chains_pass _ s.few.items s.many.items s.most s.first s.passed (s.passed + c.args.passed) s.pages.items
          (omega arith) c.self.invariant.5,
    )

pub returns-clause-entries : goal.returns-clause-entries
returns-clause-entries g c =
    let s = c.self.inside in
    passed_more_of s.passed c.args.passed s.pages.items
    ∙ ap (λ (v : Logged g.row.K.Denot g.row.V.Denot). drop c.args.passed v.entries) c.self.view_is
