-- The Empty messages that answer another, under its Message ID: acknowledgement and Reset (RFC 7252, section 4.2).
use Rattle.std.specs.Prelude.{ℕ, ◌/◌, ◌%◌, List, [], ◌∷◌}

abbrev pub ack_bytes : ℕ → List ℕ
ack_bytes id = 0x60 ∷ 0 ∷ id / 256 ∷ id % 256 ∷ []

abbrev pub reset_bytes : ℕ → List ℕ
reset_bytes id = 0x70 ∷ 0 ∷ id / 256 ∷ id % 256 ∷ []
