-- How the bytes of a segment are written in the text of a path: a percent sign and two hexadecimal digits are the byte
-- of that number (RFC 3986, section 2.1).
use Rattle.std.specs.Prelude.{ℕ, ◌+◌, ◌-◌, ◌*◌, ◌==◌, ◌&&◌, Bool, true, false, not, cond, nat_le, List, [], ◌∷◌}
use Rattle.std.specs.Prelude.{Option, Some, None, if◌then◌else◌}
use Rattle.std.specs.List.{flat_map}

-- a slash (47) is written `%2F`, a percent sign (37) `%25`, and any other byte as it is
abbrev pub escape : ℕ → List ℕ
escape b = if b == 47 then 37 ∷ 50 ∷ 70 ∷ [] else (if b == 37 then 37 ∷ 50 ∷ 53 ∷ [] else b ∷ [])

abbrev pub escaped : List ℕ → List ℕ
escaped bytes = flat_map escape bytes

-- the number of a hexadecimal digit: `0` to `9`, `A` to `F`, and `a` to `f`
abbrev pub hex_of : ℕ → Option ℕ
hex_of b =
    if nat_le 48 b && nat_le b 57 then Some (b - 48)
    else (if nat_le 65 b && nat_le b 70 then Some (b - 65 + 10)
    else (if nat_le 97 b && nat_le b 102 then Some (b - 97 + 10) else None))

abbrev pub or_zero : Option ℕ → ℕ
or_zero None = 0
or_zero (Some n) = n

abbrev pub is_digit : Option ℕ → Bool
is_digit None = false
is_digit (Some n) = true

-- two hexadecimal digits follow each percent sign
abbrev pub is_escaped : List ℕ → Bool
is_escaped [] = true
is_escaped (b ∷ []) = not (b == 37)
is_escaped (b ∷ h ∷ []) = not (b == 37) && is_escaped (h ∷ [])
is_escaped (b ∷ h ∷ l ∷ bs) =
    cond (b == 37) (is_digit (hex_of h) && is_digit (hex_of l) && is_escaped bs) (is_escaped (h ∷ l ∷ bs))

-- the bytes that such a text says
abbrev pub unescaped : List ℕ → List ℕ
unescaped [] = []
unescaped (b ∷ []) = b ∷ []
unescaped (b ∷ h ∷ []) = b ∷ unescaped (h ∷ [])
unescaped (b ∷ h ∷ l ∷ bs) =
    cond (b == 37) ((or_zero (hex_of h) * 16 + or_zero (hex_of l)) ∷ unescaped bs) (b ∷ unescaped (h ∷ l ∷ bs))
