-- The state that an assembly's fields stand for, and what `undo` puts back.
use Rattle.std.specs.Prelude.{ℕ, zero, suc, if◌then◌else◌, ◌<◌, ◌≤◌, ◌+◌, ◌-◌, ◌++◌, ◌&&◌, Bool, List, [], ◌∷◌, length}
use Rattle.std.specs.Prelude.{filter, map, not, take, set, Option, Some, None, vec_len, vec_capacity}
use Rattle.std.specs.List.{insert}
use Rattle.std.specs.Option.{option_map}
use Rattle.std.specs.declared.vec.Vec.{Vec}
use Rattle.coap_types.specs.declared.endpoint.Endpoint.{Endpoint}
use Rattle.coap_types.specs.SameEndpoint.{same_endpoint}
use Rattle.coap_block.specs.declared.upload_key.UploadKey.{UploadKey}
use Rattle.coap_block.specs.declared.partial.Partial.{Partial}
use Rattle.coap_block.specs.declared.assembly_undo.Change.{Change}
use Rattle.coap_block.specs.declared.assembly_undo.Change.TheVariants.{Clock, Begun, Replaced, TakenOut, Grown}
use Rattle.coap_block.specs.declared.assembly_undo.Before.{Before}
use Rattle.coap_block.specs.declared.assembly_judging.TheConstants.{MAX_PARTIALS as max_partials}
use Rattle.coap_block.specs.Sizes.{Sizes}
use Rattle.coap_block.specs.AssemblyState.{Key, PartialBody, AssemblyState, same_key, is_live, forgotten}

abbrev pub key_of : {A : Type 0} → UploadKey A → Key
key_of k = record { from = k.from; path = k.path; method = k.method }

abbrev pub body_of : {A : Type 0} → Partial A → PartialBody
body_of p = record { key = key_of p.key; bytes = p.bytes; last = p.last.0 }

abbrev pub partials_of : {A : Type 0} → List (Partial A) → List PartialBody
partials_of {A} ps = map (λ (p : Partial A). body_of p) ps

-- those that are there at a moment
abbrev pub there_of : {A : Type 0} → ℕ → List (Partial A) → List PartialBody
there_of now ps = forgotten now (partials_of ps)

-- those of uploads from other endpoints
abbrev pub others_of : {A : Type 0} → Endpoint → List (Partial A) → List (Partial A)
others_of {A} from ps = filter (λ (p : Partial A). not (same_endpoint p.key.from from)) ps

-- it is the partial body of that key, and there
abbrev pub is_there : Key → ℕ → PartialBody → Bool
is_there key now p = is_live now p && same_key p.key key

-- the place of the partial body of that key that is there
abbrev pub place_of : Key → ℕ → List PartialBody → Option ℕ
place_of key now [] = None
place_of key now (p ∷ ps) = if is_there key now p then Some 0 else option_map (λ i. i + 1) (place_of key now ps)

-- with the one at that place changed
abbrev pub changed_at : (PartialBody → PartialBody) → ℕ → List PartialBody → List PartialBody
changed_at f i [] = []
changed_at f zero (p ∷ ps) = f p ∷ ps
changed_at f (suc i) (p ∷ ps) = p ∷ changed_at f i ps

abbrev pub begun : Key → List ℕ → ℕ → PartialBody
begun key bytes now = record { key = key; bytes = bytes; last = now }

abbrev pub grown : List ℕ → ℕ → PartialBody → PartialBody
grown payload now p = record p { bytes = p.bytes ++ payload; last = now }

abbrev pub cut : ℕ → ℕ → PartialBody → PartialBody
cut len last p = record p { bytes = take len p.bytes; last = last }

-- the partial bodies as they were before a change
abbrev pub restored : {A : Type 0} → Change A → List PartialBody → List PartialBody
restored Clock ps = ps
restored Begun ps = take (length ps - 1) ps
restored (Replaced i p) ps = set ps i (body_of p)
restored (TakenOut i p) ps = insert ps i (body_of p)
restored (Grown i len last) ps = changed_at (cut len last.0) i ps

abbrev pub undone : {A : Type 0} → Change A → List (Partial A) → List PartialBody
undone change ps = restored change (partials_of ps)

-- the places of a change are there, with room for what was taken out
abbrev pub IsUndoable : {A : Type 0} → Change A → Vec (Partial A) A → Type 0
IsUndoable Clock v = Unit {0}
IsUndoable Begun v = Unit {0}
IsUndoable (Replaced i p) v = i < vec_len v
IsUndoable (TakenOut i p) v = (i ≤ vec_len v) × (vec_len v < vec_capacity v)
IsUndoable (Grown i len last) v = i < vec_len v

abbrev pub state_of : Sizes → ℕ → List PartialBody → AssemblyState
state_of sizes clock ps = record {
  szx = sizes.szx;
  limit = sizes.limit;
  clock = clock;
  partials = forgotten clock ps;
}

abbrev pub before_of : {A : Type 0} → Sizes → List PartialBody → Option (Before A) → Option AssemblyState
before_of sizes ps None = None
before_of sizes ps (Some b) = Some (state_of sizes b.clock.0 (restored b.change ps))

abbrev pub IsUndoableBefore : {A : Type 0} → Option (Before A) → Vec (Partial A) A → Type 0
IsUndoableBefore None v = Unit {0}
IsUndoableBefore (Some b) v = IsUndoable b.change v

-- As many are there at the clock as a server keeps at most, and one more is kept, which the last input may have found
-- dead, so that it can be given back.
pub record AreFew (clock : ℕ) (ps : List PartialBody) : Type 0 where
  pub there : length (forgotten clock ps) ≤ max_partials
  pub all : length ps ≤ max_partials + 1

abbrev pub AreFewBefore : {A : Type 0} → List PartialBody → Option (Before A) → Type 0
AreFewBefore ps None = Unit {0}
AreFewBefore ps (Some b) = AreFew b.clock.0 (restored b.change ps)

-- what callers see of an assembly
pub record AssemblyValue : Type 0 where
  pub state : AssemblyState
  pub before : Option AssemblyState

abbrev pub value_of : {A : Type 0} → Sizes → ℕ → List PartialBody → Option (Before A) → AssemblyValue
value_of sizes clock ps before = record { state = state_of sizes clock ps; before = before_of sizes ps before }
