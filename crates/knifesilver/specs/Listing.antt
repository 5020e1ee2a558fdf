-- Which paths a server tells that hold something.
use Rattle.std.specs.Prelude.{◌≡◌, ◌<◌, ℕ, ℤ, pos, List, [], length, Option, Some, None, IfSome, slice_get}
use Rattle.coap_paths.specs.PathTexts.{IsText, text_of}
use Rattle.coap_resource.specs.Content.{Held as Kept}
use Rattle.coap_resource.specs.Entries.{paths_of}
use Rattle.coap_server.specs.Led.{State}
use Rattle.knifesilver.specs.declared.held.Held.{Held}
use Rattle.knifesilver.specs.declared.held.Held.TheVariants.{Server, Client, Names}
use Rattle.knifesilver.specs.declared.server.getting.KsRepresentation.{KsRepresentation}
use Rattle.knifesilver.specs.ServerCalls.{representation_of}

-- the paths of what is held, in the order of its store
abbrev pub paths_held : Held → List (List (List ℕ))
paths_held (Server s) = paths_of s.server.store.entries
paths_held (Client c) = []
paths_held (Names t) = []

abbrev pub paths_in : Option Held → List (List (List ℕ))
paths_in None = []
paths_in (Some held) = paths_held held

-- what this path holds is told, beside its body
abbrev pub IsShown : KsRepresentation → List (List ℕ) → State → Type 0
IsShown shown path s = (held : Kept) × (s.own.store.holds path ≡ Some held) × (shown ≡ representation_of held)

-- A path is told: the answer is 1, and it stands as text at the front of the room, with what it holds. Or there is none,
-- and the answer is 0.
abbrev pub PathAnswers : ℤ → KsRepresentation → (room : List ℕ) (len : ℕ) → Option (List (List ℕ)) → State → Type 0
PathAnswers answer shown room len None s = answer ≡ pos 0
PathAnswers answer shown room len (Some path) s = (answer ≡ pos 1) × IsText path room len × IsShown shown path s

-- the path at this place has a text that is longer than the room
abbrev pub IsLongAt : (place room : ℕ) → List (List (List ℕ)) → Type 0
IsLongAt place room paths = IfSome (slice_get paths place) (λ path. room < length (text_of path))
