-- Extended numbers: an option's delta and its value's length (RFC 7252, section 3.1).
use Rattle.std.specs.Prelude.{◌≡◌, ℕ, ◌+◌, ◌*◌, ◌<◌, List, [], ◌∷◌}

-- The number n is said by a nibble and the bytes that extend it: 0 to 12 by the nibble alone; 13 to 268 by
-- nibble 13 and one byte, the number less 13; 269 to 65804 by nibble 14 and two bytes, most significant first,
-- the number less 269. Nibble 15 says no number.
abbrev pub Ext : ℕ → ℕ → List ℕ → Type 0
Ext n nibble [] = (n < 13) × (nibble ≡ n)
Ext n nibble (b ∷ []) = (b < 256) × (n ≡ 13 + b) × (nibble ≡ 13)
Ext n nibble (high ∷ low ∷ []) = (high < 256) × (low < 256) × (n ≡ 269 + (high * 256 + low)) × (nibble ≡ 14)
Ext n nibble (_ ∷ _ ∷ _ ∷ _) = ⊥
