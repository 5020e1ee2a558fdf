-- Up to 8 bytes, as tokens and entity-tags are (RFC 7252, sections 5.3.1 and 5.10.6), in a field of 8.
use Rattle.std.specs.Prelude.{◌≡◌, ℕ, List, length, take}

-- the first so many of the field are these bytes
abbrev pub AreIn : (bytes field : List ℕ) (len : ℕ) → Type 0
AreIn bytes field len = (len ≡ length bytes) × (take len field ≡ bytes)
