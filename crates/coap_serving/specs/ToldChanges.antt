-- What is told of a request that is applied: that request, once; what could not be told is counted.
use Rattle.std.specs.Prelude.{ℕ, Bool, true, false, List, [], ◌∷◌, Option, Some, None, ◌≡◌, if◌then◌else◌}
use Rattle.coap_types.specs.declared.request.Method.{Method}
use Rattle.coap_resource.specs.Content.{Held}
use Rattle.coap_links.specs.Faults.{raised}
use Rattle.coap_server.specs.Led.{State}
use Rattle.coap_server.specs.Trace.{Applied}
use Rattle.coap_journaled.specs.Journal.{Journal, is_open}
use Rattle.coap_json.specs.OtherObjects.{applied_object}
use Rattle.coap_json.specs.Objects.{WritesObject}

-- it is told of, or one more could not be (`t` and `u` are the teller before and after, `n` and `m` the counts)
abbrev pub IsToldOnce : {T : Type 0} → (T → Bool → T → Type 0) → T → ℕ → T → ℕ → Type 0
IsToldOnce tells t n u m = (told : Bool) × tells t told u × (m ≡ if told then n else raised n)

-- the body that is held, empty where nothing is
abbrev pub body_of : Option Held → List ℕ
body_of None = []
body_of (Some held) = held.body

-- what a server applied last whose inputs are all in its journal; nothing where one isn't
abbrev pub applied_if_kept : {F : Type 0} → Journal State F → List Applied
applied_if_kept j = if is_open j then j.end.own.applied else []

-- where there is a teller, it tells of what was applied at this moment, if anything, with the body that its path holds;
-- where there is none, nothing is told of, and nothing is missed
abbrev pub IsToldWhere : {T : Type 0} → (T → ℕ → Method → List (List ℕ) → ℕ → List ℕ → Bool → T → Type 0) → ℕ
    → List Applied → (List (List ℕ) → List ℕ) → Option T → ℕ → Option T → ℕ → Type 0
IsToldWhere tells at applied bodies None n u m = (u ≡ None) × (m ≡ n)
IsToldWhere tells at [] bodies (Some t) n u m = (u ≡ Some t) × (m ≡ n)
IsToldWhere {T} tells at (a ∷ more) bodies (Some t) n u m = (v : T) × (u ≡ Some v)
    × IsToldOnce (λ x told y. tells x at a.method a.path a.version (bodies a.path) told y) t n v m

-- A step of an end around another one (`s` and `n` are what is seen of it before and after: of the end inside, its
-- teller and the count): what the end inside then has applied last is told of.
abbrev pub IsToldAfter : {E S T : Type 0} → (E → S) → (E → List Applied) → (E → List (List ℕ) → List ℕ)
    → (T → ℕ → Method → List (List ℕ) → ℕ → List ℕ → Bool → T → Type 0) → ℕ → S × (Option T × ℕ) → S × (Option T × ℕ)
    → Type 0
IsToldAfter {E} state applies bodies tells at s n = (e : E) × (state e ≡ n.0)
    × IsToldWhere tells at (applies e) (bodies e) s.1.0 s.1.1 n.1.0 n.1.1

-- .. where it did something, and else nothing is told of
abbrev pub IsToldIf : {S X : Type 0} → Bool → (S × X → S × X → Type 0) → S × X → S × X → Type 0
IsToldIf true told s n = told s n
IsToldIf false told s n = n.1 ≡ s.1

-- .. of a request that was applied: with its path in words
abbrev pub WritesApplied : (old new : Option (List ℕ)) → ℕ → Method → ℕ → List ℕ → Type 0
WritesApplied old new at method version body =
    (path : List ℕ) × WritesObject old new (applied_object at method path version body)
