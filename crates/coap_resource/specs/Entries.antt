-- A list of entries as a map from paths, with at most one entry for a path.
use Rattle.std.specs.Prelude.{◌≡◌, ◌≢◌, ◌≤◌, ℕ, ◌+◌, not, List, [], ◌∷◌, length, map, Option, Some, None, IfSome}
use Rattle.std.specs.Prelude.{is_some, if◌then◌else◌}
use Rattle.std.specs.List.{filter}
use Rattle.coap_types.specs.Path.{same_path}
use Rattle.coap_resource.specs.declared.entry.Entry.{Entry}
use Rattle.coap_resource.specs.declared.representation.Representation.{Representation}
use Rattle.coap_types.specs.declared.body_limit.TheConstants.{MAX_BODY_LIMIT as max_limit}
use Rattle.coap_resource.specs.Content.{Held, Content}
use Rattle.coap_resource.specs.Rate.{Tally}
use Rattle.coap_resource.specs.Shown.{held_of}

abbrev pub entry_of : {A : Type 0} → Entry A → List (List ℕ) × Held
entry_of e = (e.path, held_of e.held)

abbrev pub held_entries : {A : Type 0} → List (Entry A) → List (List (List ℕ) × Held)
held_entries {A} es = map (λ (e : Entry A). entry_of e) es

-- .. and those of a map from paths
abbrev pub mapped_entries : {A : Type 0} → List (List (List ℕ) × Representation A) → List (List (List ℕ) × Held)
mapped_entries {A} es = map (λ (e : List (List ℕ) × Representation A). (e.0, held_of e.1)) es

-- the paths of the entries, in their order
abbrev pub paths_of : List (List (List ℕ) × Held) → List (List (List ℕ))
paths_of es = map (λ (e : List (List ℕ) × Held). e.0) es

-- what the entries hold at a path
abbrev pub find : List (List (List ℕ) × Held) → List (List ℕ) → Option Held
find [] path = None
find (e ∷ es) path = if same_path e.0 path then Some e.1 else find es path

-- the entries of the other paths
abbrev pub without_path : List (List (List ℕ) × Held) → List (List ℕ) → List (List (List ℕ) × Held)
without_path es path = filter (λ e. not (same_path e.0 path)) es

-- no path has two entries
abbrev pub Unique : List (List (List ℕ) × Held) → Type 0
Unique [] = Unit {0}
Unique (e ∷ es) = (find es e.0 ≡ None) × Unique es

-- no body has more bytes
abbrev pub HaveAtMost : ℕ → List (List (List ℕ) × Held) → Type 0
HaveAtMost limit [] = Unit {0}
HaveAtMost limit (e ∷ es) = (length e.1.body ≤ limit) × HaveAtMost limit es

-- no body is longer than a store takes, whose limit is one that can be chosen
pub record AreShort (limit : ℕ) (es : List (List (List ℕ) × Held)) : Type 0 where
  pub bodies : HaveAtMost limit es
  pub chosen : limit ≤ max_limit

-- a store that is a list of entries
pub record Listed : Type 0 where
  pub entries : List (List (List ℕ) × Held)
  pub tally : Tally

abbrev pub content_of : Listed → Content
content_of s = record { holds = find s.entries; paths = length s.entries; tally = s.tally }

-- The entries hold that at the path from now on, or nothing, and at the others what they held.
pub record Enters (old : List (List (List ℕ) × Held)) (path : List (List ℕ)) (held : Option Held)
    (new : List (List (List ℕ) × Held)) : Type 0 where
  pub there : find new path ≡ held
  pub others : (other : List (List ℕ)) → other ≢ path → find new other ≡ find old other
  pub paths : length new + (if is_some (find old path) then 1 else 0) ≡ length old + (if is_some held then 1 else 0)
  pub short : (limit : ℕ) → AreShort limit old → IfSome held (λ h. length h.body ≤ limit) → AreShort limit new
