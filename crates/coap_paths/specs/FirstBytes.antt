-- The steps of the reader, on lists: the first byte that a text says, and the text after it. A private contract cites
-- them; what they come to is said in Escapes, and no clause of a public function needs more.
use Rattle.std.specs.Prelude.{ℕ, ◌+◌, ◌*◌, ◌==◌, List, [], ◌∷◌, Option, Some, None, if◌then◌else◌}
use Rattle.coap_paths.specs.Escapes.{hex_of}

-- the byte that two digits say, and the text after them
abbrev pub pair_of : Option ℕ → Option ℕ → List ℕ → Option (ℕ × List ℕ)
pair_of (Some high) (Some low) after = Some (high * 16 + low, after)
pair_of (Some high) None after = None
pair_of None low after = None

abbrev pub after_percent : List ℕ → Option (ℕ × List ℕ)
after_percent [] = None
after_percent (h ∷ []) = None
after_percent (h ∷ l ∷ after) = pair_of (hex_of h) (hex_of l) after

-- none where the text is empty, or begins with a percent sign that no two digits follow
abbrev pub next_of : List ℕ → Option (ℕ × List ℕ)
next_of [] = None
next_of (b ∷ bs) = if b == 37 then after_percent bs else Some (b, bs)
