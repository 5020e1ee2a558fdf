use Rattle.std.proofs.Common.{◌≡◌, ◌≤◌, ◌<◌, ◌+◌, ◌-◌, ◌++◌, ℕ, [], ◌∷◌, None, Some, length, drop, arith, rules, ap}
use Rattle.std.proofs.Common.{sym, subst, ◌∙◌, refl}
use Rattle.std.specs.List.{IsDistinct}
use Rattle.std.specs.Map.{keys_of}
use Rattle.coap_layer.specs.Machine.Chains.{AreOnChains, entries_of, number_at}
use Rattle.coap_layer.proofs.Calls.Chained.{chains_less, length_left, number_small, page_less_of}
use Rattle.coap_layer.proofs.dedup.log.Log.let_go.Goals as goal

pub invariant_of-self : goal.invariant_of-self
invariant_of-self g c =
    let s = c.self.inside in
    let n = c.first-going.result in
    let few = c.first-going.ensures.few in
    let fits = c.first-going.ensures.within in
    let le = c.if-going-self.true in
    let same = c.first-going.ensures.first in
    let left : c.let_go.new.self.items ≡ drop n s.pages.items
    = c.let_go.ensures.items ∙ ap (λ k. drop k s.pages.items) (sym same) in
    let len = length_left n s.pages.items fits in
    let shorter = ap length left in
    let within = c.self.invariant.0 in
    let spare = c.let_go.ensures.spare in
    let e : n + (s.passed - n) ≡ s.passed = omega (arith, le) in (
      omega (arith, len, shorter, within, le),
      number_small s.first n,
      c.self.invariant.2,
      λ h. c.self.invariant.3 (omega (arith, h, spare)),
      subst (λ ls. IsDistinct g.K.PartialEq.eq (keys_of (entries_of (s.passed - n) ls))) (sym left)
          (subst (λ es. IsDistinct g.K.PartialEq.eq (keys_of es))
          (sym (page_less_of n (s.passed - n) s.passed s.pages.items e)) c.self.invariant.4),
      subst (AreOnChains _ s.few.items s.many.items s.most (number_at s.first n) (s.passed - n)) (sym left)
          (chains_less _ s.few.items s.many.items s.most s.first n s.passed (s.passed - n) s.pages.items
          c.self.invariant.1 (omega (arith, few)) e fits c.self.invariant.5),
    )
