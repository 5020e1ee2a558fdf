-- Two servers that hold the same, but for the versions.
use Rattle.std.specs.Prelude.{◌≡◌, ⊤, ℕ, false, List, [], ◌∷◌, Option, Some, length}
use Rattle.std.specs.List.{list_any}
use Rattle.coap_types.specs.Path.{same_path}
use Rattle.coap_resource.specs.Content.{Held}
use Rattle.coap_server.specs.Led.{State, Step}
use Rattle.coap_server.specs.Trace.{Gets}

-- a server holds this body in this format at the path
abbrev pub HoldsBody : List (List ℕ) → Option ℕ → List ℕ → State → Type 0
HoldsBody path format body s =
    (held : Held) × Step s (Gets path (Some held)) s × (held.format ≡ format) × (held.body ≡ body)

-- what the one holds at the path, the other holds there
abbrev pub HoldsAlike : State → State → List (List ℕ) → Type 0
HoldsAlike old new path =
    (held : Held) × Step old (Gets path (Some held)) old × HoldsBody path held.format held.body new

-- .. and so at each of these
abbrev pub AreHeldAlike : State → State → List (List (List ℕ)) → Type 0
AreHeldAlike old new [] = ⊤
AreHeldAlike old new (path ∷ paths) = HoldsAlike old new path × AreHeldAlike old new paths

-- no two paths are one
abbrev pub AreDistinct : List (List (List ℕ)) → Type 0
AreDistinct [] = ⊤
AreDistinct (path ∷ paths) = (list_any (λ other. same_path other path) paths ≡ false) × AreDistinct paths

-- both hold the same at each path at which one of them holds anything: at as many paths as these are
pub record HoldsTheSame (old new : State) : Type 0 where
  pub paths : List (List (List ℕ))
  pub distinct : AreDistinct paths
  pub alike : AreHeldAlike old new paths
  pub all_of_old : old.own.store.paths ≡ length paths
  pub all_of_new : new.own.store.paths ≡ length paths
