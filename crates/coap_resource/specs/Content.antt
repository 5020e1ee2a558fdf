-- What a store holds, when a change of it is refused, and what a change is (RFC 7252, section 5.8).
use Rattle.std.specs.Prelude.{◌≡◌, ◌≢◌, ℕ, Bool, false, not, ◌&&◌, ◌||◌, ◌+◌, nat_lt, nat_le, List, [], ◌∷◌, length}
use Rattle.std.specs.Prelude.{Option, Some, None, is_some, if◌then◌else◌}
use Rattle.coap_types.specs.Path.{same_path}
use Rattle.coap_resource.specs.declared.refusal.StoreRefusal.{StoreRefusal}
use Rattle.coap_resource.specs.declared.refusal.StoreRefusal.TheVariants.{Memory, TooLarge, TooManyPaths, RateExceeded}
use Rattle.coap_resource.specs.declared.refusal.StoreRefusal.TheVariants.{VersionsSpent}
use Rattle.coap_resource.specs.declared.store.TheConstants.{MAX_PATHS as max_paths}
use Rattle.coap_resource.specs.Limits.{Limits}
use Rattle.coap_resource.specs.Rate.{Tally, unused, rate_refusal, waited, counted}

-- what a path holds: the number of the change that made it, the format, and the body
pub record Held : Type 0 where
  pub version : ℕ
  pub format : Option ℕ
  pub body : List ℕ

-- a store: what each path holds, how many paths hold something, and the count of its changes
pub record Content : Type 0 where
  pub holds : List (List ℕ) → Option Held
  pub paths : ℕ
  pub tally : Tally

-- a store that was never changed
abbrev pub nothing : Limits → Content
nothing limits = record { holds = λ _. None; paths = 0; tally = unused limits }

-- whether a path is one of these
abbrev pub is_listed : List (List ℕ) → List (List (List ℕ)) → Bool
is_listed path [] = false
is_listed path (p ∷ ps) = same_path p path || is_listed path ps

-- These are the paths that hold something, each once: they are as many.
pub record Lists (s : Content) (paths : List (List (List ℕ))) : Type 0 where
  pub held : (path : List (List ℕ)) → is_listed path paths ≡ is_some (s.holds path)
  pub once : length paths ≡ s.paths

-- the same store when a moment has counted
abbrev pub later : Content → ℕ → Content
later s now = record s { tally = waited s.tally now }

-- the number of a refusal
abbrev pub refusal_number : StoreRefusal → ℕ
refusal_number Memory = 1
refusal_number TooLarge = 2
refusal_number TooManyPaths = 3
refusal_number RateExceeded = 4
refusal_number VersionsSpent = 5

-- why a body of this length can't be put, in the order of the tests, where the path holds something or not and so many
-- paths do
abbrev pub put_refusal_by : Tally → ℕ → Bool → ℕ → ℕ → Option StoreRefusal
put_refusal_by tally now there paths len =
    if nat_lt tally.limits.body len then Some TooLarge
    else if not there && nat_le max_paths paths then Some TooManyPaths
    else rate_refusal tally now

-- why a path can't be given a body of this length
abbrev pub put_refusal : Content → ℕ → List (List ℕ) → ℕ → Option StoreRefusal
put_refusal s now path len = put_refusal_by s.tally now (is_some (s.holds path)) s.paths len

-- why so many bytes can't be joined to a body of this length, in the order of the tests
abbrev pub append_refusal_by : Tally → ℕ → ℕ → ℕ → Option StoreRefusal
append_refusal_by tally now had len =
    if nat_lt tally.limits.body (had + len) then Some TooLarge else rate_refusal tally now

-- why so many bytes can't be joined to what a path holds
abbrev pub append_refusal : Content → ℕ → Held → ℕ → Option StoreRefusal
append_refusal s now held len = append_refusal_by s.tally now (length held.body) len

-- one change: this path holds that from now on, and the others what they held
pub record Changes (old : Content) (now : ℕ) (path : List (List ℕ)) (held : Option Held) (new : Content) : Type 0 where
  pub there : new.holds path ≡ held
  pub others : (other : List (List ℕ)) → other ≢ path → new.holds other ≡ old.holds other
  pub paths : new.paths + (if is_some (old.holds path) then 1 else 0) ≡ old.paths + (if is_some held then 1 else 0)
  pub tally : new.tally ≡ counted old.tally now
