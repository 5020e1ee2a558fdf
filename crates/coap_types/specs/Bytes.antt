-- Bytes: numbers below 256 (RFC 7252, section 3).
use Rattle.std.specs.Prelude.{ℕ, ◌<◌, List, All}

-- each is a byte
abbrev pub AreBytes : List ℕ → Type 0
AreBytes = All (λ b. b < 256)
