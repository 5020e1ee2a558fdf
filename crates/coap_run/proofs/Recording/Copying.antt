-- A list of tags, one after the other.
use Rattle.std.proofs.Common.{◌≡◌, ◌<◌, ℕ, ◌+◌, Result, Ok, Err, List, [], ◌∷◌, ◌++◌, take, length, get_or, OnOk}
use Rattle.std.proofs.Common.{OnErr, sym, ap, ◌∙◌, arith}
use Rattle.std.proofs.lemmas.Grind.{take_at_read}

-- where there is room, it is added
pub is_added : {X Y Z : Type 0} (r : Result X Y) (most : ℕ) (old new : List Z) (x : Z) → OnOk r (new ≡ old ++ x ∷ [])
    → OnErr r (length old ≡ most) → length old < most → new ≡ old ++ x ∷ []
is_added (Ok v) most old new x ok err room = ok
is_added (Err v) most old new x ok err room = absurd (omega (arith, err, room))

pub one_copied :
    {X : Type 0} (xs old new : List X) (n : ℕ) (x : X) → n < length xs → x ≡ get_or xs n x → old ≡ take n xs
    → new ≡ old ++ x ∷ [] → new ≡ take (n + 1) xs
one_copied xs old new n x h is old_is new_is =
    new_is ∙ ap (λ l. l ++ x ∷ []) old_is ∙ ap (λ y. take n xs ++ y ∷ []) is ∙ sym (take_at_read xs n x h).1
