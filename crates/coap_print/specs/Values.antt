-- Values in print.
use Rattle.std.specs.Prelude.{ℕ, List, [], ◌∷◌, codes}
use Rattle.hex.specs.Hex.{encode_lower}

-- bytes in lower case hex, a dash where there are none
abbrev pub shown_hex : List ℕ → List ℕ
shown_hex [] = codes "-"
shown_hex (byte ∷ bytes) = encode_lower (byte ∷ bytes)
