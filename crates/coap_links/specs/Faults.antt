-- The faults of a link: it counts the calls that failed.
use Rattle.std.specs.Prelude.{◌≡◌, ◌⊎◌, ℕ, ◌+◌, ◌-◌, ◌^◌, nat_lt, if◌then◌else◌}

-- a call that failed counts one more, until the count is at its last value
abbrev pub raised : ℕ → ℕ
raised count = if nat_lt count (2 ^ 64 - 1) then count + 1 else count

-- a call failed, or it did not
abbrev pub MayRaise : ℕ → ℕ → Type 0
MayRaise before after = (after ≡ before) ⊎ (after ≡ raised before)

-- one more in a row, or the row is at its end
abbrev pub RaisesOrEnds : ℕ → ℕ → Type 0
RaisesOrEnds before after = (after ≡ 0) ⊎ (after ≡ raised before)
