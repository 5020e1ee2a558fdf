use Rattle.std.proofs.Common.{arith, ◌≡◌, ◌≤◌, ◌<◌, ◌+◌, ◌-◌, ◌++◌, [], ◌∷◌, length, ap, sym, subst, ◌∙◌, vec_len}
use Rattle.std.proofs.Common.{vec_capacity}
use Rattle.std.proofs.lemmas.List.{length-append}
use Rattle.coap_layer.specs.Machine.Paged.{AreFull, Paged, items_on}
use Rattle.coap_layer.specs.declared.dedup.pages.TheConstants.{PAGE as page}
use Rattle.coap_layer.proofs.Calls.OnPages.{full_more, turned}
use Rattle.coap_layer.proofs.dedup.pages.Pages.push.Goals as goal

pub invariant_of-self-else-len-lt-PAGE : goal.invariant_of-self-else-len-lt-PAGE
invariant_of-self-else-len-lt-PAGE g c =
    let s = c.self.inside in
    let room = c.self.invariant.4 in
    let page_is = c.replace-page.ensures.value in
    let begun = c.replace-page.ensures.after ∙ c.replace-next.ensures.value in
    let empty : c.replace-page.new.dest.items ≡ [] = ap (λ v. v.items) begun ∙ c.self.invariant.3 in
    let pushed : c.push_back_reserved.new.self.items ≡ s.full.items ++ s.last ∷ []
    = c.push_back_reserved.ensures.items ∙ ap (λ p. s.full.items ++ p ∷ []) page_is in
    let one : c.push_reserved-else-len-lt-PAGE.new.self.items ≡ c.args.item ∷ []
    = c.push_reserved-else-len-lt-PAGE.ensures.items ∙ ap (λ xs. xs ++ c.args.item ∷ []) empty in
    let all = turned s.full.items c.push_back_reserved.new.self.items s.last
    c.push_reserved-else-len-lt-PAGE.new.self.items c.args.item pushed one in
    let some : 0 < s.spare = subst (λ (v : Paged g.row.T.Denot). 0 < v.spare) (sym c.self.view_is) c.requires in
    let held = c.if-len-lt-PAGE.false in
    let len = c.len.ensures in
    let ok = s.last.ok.0 in
    let most = room.1 in
    let few = room.0 in
    let full : length s.last.items ≡ page = omega (arith, held, len, ok, most) in
    let turn = room.3 (omega (arith, held, len, some)) in
    let next_room = turn.2 in
    let was = c.replace-page.new.dest.ok.0 in
    let none = ap length empty in
    let longer = c.push_reserved-else-len-lt-PAGE.ensures.len in
    let first : vec_len c.push_reserved-else-len-lt-PAGE.new.self ≡ 1 = omega (arith, longer, was, none) in
    let cap : vec_capacity c.push_reserved-else-len-lt-PAGE.new.self ≡ vec_capacity s.next
    = c.push_reserved-else-len-lt-PAGE.ensures.capacity ∙ ap vec_capacity begun in
    let counted = c.self.invariant.1 in
    let sum = c.self.invariant.2 in
    let more = ap length all ∙ length-append (items_on s.full.items ++ s.last.items) (c.args.item ∷ []) in (
      subst AreFull (sym pushed) (full_more s.full.items s.last c.self.invariant.0 full),
      omega (arith, counted, more),
      omega (arith, sum, some),
      ap (λ v. v.items) c.replace-next.ensures.after ∙ c.new.ensures.items,
      (
        omega (arith, few),
        omega (arith, first),
        λ h. omega (arith, first, cap, next_room, few),
        λ h. absurd (omega (arith, h, first, few)),
      ),
    )

pub returns-else-len-lt-PAGE-clause-items : goal.returns-else-len-lt-PAGE-clause-items
returns-else-len-lt-PAGE-clause-items g c =
    let s = c.self.inside in
    let begun = c.replace-page.ensures.after ∙ c.replace-next.ensures.value in
    let empty : c.replace-page.new.dest.items ≡ [] = ap (λ v. v.items) begun ∙ c.self.invariant.3 in
    let pushed : c.push_back_reserved.new.self.items ≡ s.full.items ++ s.last ∷ []
    = c.push_back_reserved.ensures.items ∙ ap (λ p. s.full.items ++ p ∷ []) c.replace-page.ensures.value in
    let one : c.push_reserved-else-len-lt-PAGE.new.self.items ≡ c.args.item ∷ []
    = c.push_reserved-else-len-lt-PAGE.ensures.items ∙ ap (λ xs. xs ++ c.args.item ∷ []) empty in
    turned s.full.items c.push_back_reserved.new.self.items s.last c.push_reserved-else-len-lt-PAGE.new.self.items
    c.args.item pushed one
    ∙ ap (λ (v : Paged g.row.T.Denot). v.items ++ c.args.item ∷ []) c.self.view_is
