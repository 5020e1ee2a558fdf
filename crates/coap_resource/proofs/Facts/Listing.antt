-- Each path at a place of the list is listed, and so holds something.
use Rattle.std.proofs.Common.{◌≡◌, ℕ, zero, suc, Bool, true, false, ◌||◌, Option, Some, None, List, [], ◌∷◌, is_some}
use Rattle.std.proofs.Common.{refl, sym, ◌∙◌}
use Rattle.std.specs.Prelude.{slice_get}
use Rattle.coap_types.specs.Path.{same_path}
use Rattle.coap_types.proofs.Facts.Paths.{same_path-decides}
use Rattle.coap_resource.specs.Content.{Content, Lists, is_listed}

first : (a b : Bool) → a ≡ true → (a || b) ≡ true
first true b h = refl
first false b h = absurd cc

later : (a b : Bool) → b ≡ true → (a || b) ≡ true
later true b h = refl
later false b h = h

same_some : (p q : List (List ℕ)) → Some p ≡ Some q → p ≡ q
same_some p q h = cc

pub listed_at : (paths : List (List (List ℕ))) (place : ℕ) (path : List (List ℕ))
    → slice_get paths place ≡ Some path → is_listed path paths ≡ true
listed_at [] place path at = absurd cc
listed_at (p ∷ ps) zero path at =
    first (same_path p path) (is_listed path ps) ((same_path-decides p path).1 (same_some p path at))
listed_at (p ∷ ps) (suc place) path at = later (same_path p path) (is_listed path ps) (listed_at ps place path at)

pub held_at : (s : Content) (paths : List (List (List ℕ))) (place : ℕ) (path : List (List ℕ))
    → Lists s paths → slice_get paths place ≡ Some path → is_some (s.holds path) ≡ true
held_at s paths place path all at = sym (all.held path) ∙ listed_at paths place path at
