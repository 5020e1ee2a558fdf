use Rattle.std.proofs.Common.{◌≡◌, ◌≤◌, ◌<◌, ◌+◌, ◌++◌, [], ◌∷◌, None, length, arith, ap, sym, subst, ◌∙◌}
use Rattle.std.proofs.lemmas.List.{length-append}
use Rattle.std.specs.List.{IsDistinct}
use Rattle.std.specs.Map.{keys_of, lookup}
use Rattle.coap_layer.specs.declared.dedup.log.Linked.{Linked}
use Rattle.coap_layer.specs.Machine.Chains.{AreOnChains, Logged, entries_of, number_at}
use Rattle.coap_layer.proofs.Calls.Chained.{distinct_one_more, head_at, more_few, more_many, one_more_of}
use Rattle.coap_layer.proofs.dedup.log.Log.push.Goals as goal

pub invariant_of-self : goal.invariant_of-self
invariant_of-self g c =
    let s = c.self.inside in
    let eq = g.K.PartialEq.eq in
    let swap = c.swap_head-link.ensures in
    let x : Linked g.row.K.Denot g.row.V.Denot
    = record { key = c.args.key; link = c.swap_head-link.result; value = c.args.value } in
    let len = c.len.ensures.len in
    let few = c.len.ensures.few in
    let ok = s.many.ok.0 in
    let all : length s.many.items ≡ s.most =
    (let t = c.if-len-self.true in let n = c.len-2.ensures in omega (arith, t, n, ok)) in
    let heads : c.len-then-len-self.result ≡ length s.many.items =
    (let n = c.len-then-len-self.ensures in omega (arith, n, ok)) in
    let is_head = head_at _ _ _ _ c.head_of-head.ensures.place heads in
    let some : 0 < s.pages.spare
    = subst (λ (v : Logged g.row.K.Denot g.row.V.Denot). 0 < v.spare) (sym c.self.view_is) c.requires.spare in
    let unknown = subst (λ (v : Logged g.row.K.Denot g.row.V.Denot). lookup (eq c.args.key) v.entries ≡ None)
    (sym c.self.view_is) c.requires.unknown in
    let pushed : c.push.new.self.items ≡ s.pages.items ++ x ∷ [] = c.push.ensures.items in
    let within = c.self.invariant.0 in
    let longer = ap length pushed ∙ length-append s.pages.items (x ∷ []) in (
      omega (arith, within, longer),
      c.self.invariant.1,
      c.self.invariant.2,
      λ h. c.self.invariant.3 some,
      subst (λ ls. IsDistinct eq (keys_of (entries_of s.passed ls))) (sym pushed)
          (subst (λ es. IsDistinct eq (keys_of es)) (sym (one_more_of s.passed s.pages.items x within))
          (distinct_one_more eq g.met.K.Eq.laws (entries_of s.passed s.pages.items) c.args.key c.args.value
          c.self.invariant.4 unknown)),
      subst (AreOnChains _ s.few.items c.swap_head-link.new.heads.items s.most s.first s.passed) (sym pushed)
          (more_many _ s.few.items s.many.items c.swap_head-link.new.heads.items s.most s.first
          s.passed (number_at s.first c.len.result) s.pages.items x c.head_of-head.result c.self.invariant.1
          (omega (arith, len, few)) (ap (number_at s.first) len) c.self.invariant.5 all is_head swap.old swap.new
          swap.others swap.len),
    )

pub invariant_of-self-else-len-self : goal.invariant_of-self-else-len-self
invariant_of-self-else-len-self g c =
    let s = c.self.inside in
    let eq = g.K.PartialEq.eq in
    let swap = c.swap_head-link-else-len-self.ensures in
    let x : Linked g.row.K.Denot g.row.V.Denot
    = record { key = c.args.key; link = c.swap_head-link-else-len-self.result; value = c.args.value } in
    let len = c.len.ensures.len in
    let few = c.len.ensures.few in
    let ok = s.few.ok.0 in
    let heads : c.len-else-len-self.result ≡ length s.few.items =
    (let n = c.len-else-len-self.ensures in omega (arith, n, ok)) in
    let is_head = head_at _ _ _ _ c.head_of-head-else-len-self.ensures.place heads in
    let some : 0 < s.pages.spare
    = subst (λ (v : Logged g.row.K.Denot g.row.V.Denot). 0 < v.spare) (sym c.self.view_is) c.requires.spare in
    let unknown = subst (λ (v : Logged g.row.K.Denot g.row.V.Denot). lookup (eq c.args.key) v.entries ≡ None)
    (sym c.self.view_is) c.requires.unknown in
    let pushed : c.push-else-len-self.new.self.items ≡ s.pages.items ++ x ∷ [] = c.push-else-len-self.ensures.items in
    let within = c.self.invariant.0 in
    let longer = ap length pushed ∙ length-append s.pages.items (x ∷ []) in (
      omega (arith, within, longer),
      c.self.invariant.1,
      c.self.invariant.2,
      λ h. (let old = c.self.invariant.3 some in let same = swap.len in omega (arith, old, same)),
      subst (λ ls. IsDistinct eq (keys_of (entries_of s.passed ls))) (sym pushed)
          (subst (λ es. IsDistinct eq (keys_of es)) (sym (one_more_of s.passed s.pages.items x within))
          (distinct_one_more eq g.met.K.Eq.laws (entries_of s.passed s.pages.items) c.args.key c.args.value
          c.self.invariant.4 unknown)),
      subst (AreOnChains _ c.swap_head-link-else-len-self.new.heads.items s.many.items s.most s.first s.passed)
          (sym pushed) (more_few _ s.few.items s.many.items c.swap_head-link-else-len-self.new.heads.items s.most
          s.first s.passed (number_at s.first c.len.result) s.pages.items x c.head_of-head-else-len-self.result
          c.self.invariant.1 (omega (arith, len, few)) (ap (number_at s.first) len) c.self.invariant.5 is_head swap.old
          swap.new swap.others swap.len),
    )
