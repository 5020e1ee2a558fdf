-- A link that sends nothing: what comes is taken from it, and dropped, for a time by a clock.
use Rattle.std.specs.Prelude.{◌≡◌, ◌⊎◌, ◌-◌, ℕ, List, [], ◌∷◌, Option}
use Rattle.coap_links.specs.Carried.{Packet}
use Rattle.coap_kept.specs.declared.keeping.Silences.{Silences}

-- receives alone lead from one link to the other; the last one stands first
abbrev pub Receives : {L : Type 0} → (L → Option Packet → L → Type 0) → L → List (Option Packet) → L → Type 0
Receives receives old [] new = new ≡ old
Receives receives old (came ∷ before) new =
    (between : _) × Receives receives old before between × receives between came new

-- nothing else happened to it
abbrev pub IsSilent : {L : Type 0} → (L → Option Packet → L → Type 0) → L → L → Type 0
IsSilent receives old new = (came : List (Option Packet)) × Receives receives old came new

-- The clock told a first moment, and later others, of which this is the last (`tells` is which moment it tells, and the
-- clock before and after).
pub data Lasts {T : Type 0} (tells : T → ℕ → T → Type 0) (old : T) (first : ℕ) : ℕ → T → Type 0 where
  begun : (new : T) → tells old first new → Lasts tells old first first new
  on : (between : T) (last next : ℕ) (new : T) → Lasts tells old first last between → tells between next new
      → Lasts tells old first next new

-- so many milliseconds passed by the clock
abbrev pub Passes : {T : Type 0} → (T → ℕ → T → Type 0) → T → ℕ → T → Type 0
Passes tells old ms new = (first : ℕ) × (last : ℕ) × Lasts tells old first last new × (ms ≡ last - first)

-- .. or none, and the clock wasn't asked
abbrev pub PassesIfAny : {T : Type 0} → (T → ℕ → T → Type 0) → T → ℕ → T → Type 0
PassesIfAny tells old ms new = ((ms ≡ 0) × (new ≡ old)) ⊎ Passes tells old ms new

-- the silences of a server were as long by the clock, the one before it was begun anew first
abbrev pub AreTimed : {T : Type 0} → (T → ℕ → T → Type 0) → T → Silences → T → Type 0
AreTimed {T} tells old silent new =
    (between : T) × PassesIfAny tells old silent.renewal between × PassesIfAny tells between silent.boot new
