-- When a tick of an end is due.
use Rattle.std.specs.Prelude.{◌≡◌, ◌≤◌, ◌<◌, ◌^◌, ℕ, max, Bool, true, false, Option, Some, None}

-- A tick is due at this moment, and none before it; or none ever is. (`latest` is the latest moment that counted for an
-- end, `ticks` what a tick makes of it.)
abbrev pub IsDueAt : {S : Type 0} → (S → ℕ) → (S → ℕ → ℕ → Bool → S → Type 0) → S → Option ℕ → Type 0
IsDueAt latest ticks s None = (now word : ℕ) (did : Bool) (n : _) → now < 2 ^ 64 → ticks s now word did n → did ≡ false
IsDueAt latest ticks s (Some at) =
    ((now word : ℕ) (did : Bool) (n : _) → max (latest s) now < at → ticks s now word did n → did ≡ false)
    × ((word : ℕ) (did : Bool) (n : _) → ticks s at word did n → did ≡ true) × (latest s ≤ at)

-- it isn't due yet
abbrev pub IsNotYet : Option ℕ → ℕ → Type 0
IsNotYet None now = Unit {0}
IsNotYet (Some at) now = now < at
