-- A list in pages. No public clause cites this module.
use Rattle.std.specs.Prelude.{◌≡◌, ◌≤◌, ◌<◌, ◌+◌, ℕ, List, [], ◌∷◌, ◌++◌, length, vec_len, vec_capacity}
use Rattle.std.specs.VecDeque.{deque_len, deque_capacity}
use Rattle.std.specs.declared.vec.Vec.{Vec}
use Rattle.coap_layer.specs.declared.dedup.pages.TheConstants.{PAGE as page, LONGEST as longest}

-- what is on the list, how many more fit, and how many are on the first page
pub record Paged (X : Type 0) : Type 0 where
  pub items : List X
  pub spare : ℕ
  pub first : ℕ

module _ {X Z : Type 0} where
  abbrev pub items_on : List (Vec X Z) → List X
  items_on [] = []
  items_on (p ∷ ps) = p.items ++ items_on ps

  abbrev pub AreFull : List (Vec X Z) → Type 0
  AreFull [] = Unit {0}
  AreFull (p ∷ ps) = (length p.items ≡ page) × AreFull ps

  -- how many are on the first page, where these are full, and so many are on the last
  abbrev pub first_of : List (Vec X Z) → ℕ → ℕ
  first_of [] last = last
  first_of (p ∷ ps) last = page

-- `spare` more fit: on the last page, or on that and the next, for which there is a place
abbrev pub IsRoom : (spare last last_room full full_room next_room : ℕ) → Type 0
IsRoom spare last last_room full full_room next_room =
    (spare ≤ 2) × (last ≤ page)
    × (last + spare ≤ page → last + spare ≤ last_room)
    × (page < last + spare → (page ≤ last_room) × (full < full_room) × (page ≤ next_room))
