use Rattle.std.proofs.Common.{◌≡◌, ◌≤◌, ◌-◌, ℕ, List, ◌∷◌, ◌∙◌, ap, arith, drop, get_or, length, subst, sym, take}
use Rattle.std.proofs.lemmas.List.{drop_more, length-drop, take_all}
use Rattle.coap_kept.specs.Holding.{AreDistinct}
use Rattle.coap_kept.proofs.held_paths.are_distinct.Goals as goal

-- a list is its first item and those behind it
whole : (items : List (List (List ℕ))) (first : List (List ℕ)) → 1 ≤ length items → first ≡ get_or items 0 first
    → items ≡ first ∷ take (length items - 1) (drop 1 items)
whole items first some is =
    let left : length (drop 1 items) ≤ length items - 1 = omega (arith, length-drop 1 items) in
    drop_more items 0 first (omega (arith, some)) ∙ ap (λ x. x ∷ drop 1 items) (sym is)
    ∙ ap (λ xs. first ∷ xs) (sym (take_all (length items - 1) (drop 1 items) left))

pub loop-rest-preserved : goal.loop-rest-preserved
loop-rest-preserved c =
    λ more. c.loop-rest.invariant
    (subst (λ (paths : List (List (List ℕ))). AreDistinct paths)
    (sym (whole c.loop-rest.rest.now c.first-item.result c.in-len1-up.len_at_least c.first-item.is))
    (sym c.has_path.ensures ∙ c.if-has_path.false, more))
