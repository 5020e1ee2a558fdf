-- A list that is folded item by item.
use Rattle.std.proofs.Common.{◌≡◌, ◌<◌, ◌+◌, ℕ, List, ◌∙◌, ap, sym, fold, get_or, length, take}
use Rattle.std.proofs.lemmas.List.Sums.{fold_more}

-- one item more is folded in
pub fold_item : {A B : Type 0} (f : B → A → B) (t : B) (xs : List A) (i : ℕ) (x : A) → x ≡ get_or xs i x
    → i < length xs → f (fold f t (take i xs)) x ≡ fold f t (take (i + 1) xs)
fold_item f t xs i x is lt = ap (f (fold f t (take i xs))) is ∙ sym (fold_more f t xs i x lt)
