-- The first place at which a text is no link format.
use Rattle.std.specs.Prelude.{◌≡◌, ◌<◌, ◌≤◌, ◌+◌, ℕ, List, [], ◌∷◌, ◌++◌, Option, Some, None, length, take}
use Rattle.coap_link_format.specs.LinkFormat.{AreLinks, Spells, joined}

-- what stands behind a link: nothing, or a comma and more
abbrev pub after_comma : Option (List ℕ) → List ℕ
after_comma None = []
after_comma (Some rest) = 44 ∷ rest

-- another byte stands there
abbrev pub IsOther : List ℕ → Type 0
IsOther text = (b : ℕ) × (more : List ℕ) × (text ≡ b ∷ more) × (b ≡ 44 → ⊥)

-- The text is none of these. One of them begins with what stands before this place, and none with that and the byte at
-- it; or the text ends there.
pub record IsFirstBad (F : List ℕ → Type 0) (n : ℕ) (text : List ℕ) : Type 0 where
  pub within : n ≤ length text
  pub more : List ℕ
  pub goes_on : F (take n text ++ more)
  pub stops : n < length text → (rest : List ℕ) → F (take (n + 1) text ++ rest) → ⊥
  pub ends : n ≡ length text → F text → ⊥

-- at least one link
abbrev pub IsList : List ℕ → Type 0
IsList text = (link : List ℕ) × (links : List (List ℕ)) × AreLinks (link ∷ links) × (text ≡ joined (link ∷ links))

abbrev pub IsBadFrom : ℕ → List ℕ → Type 0
IsBadFrom n text = IsFirstBad IsList n text

abbrev pub IsFormat : List ℕ → Type 0
IsFormat text = (links : List (List ℕ)) × Spells text links

abbrev pub IsBadAt : ℕ → List ℕ → Type 0
IsBadAt n text = IsFirstBad IsFormat n text

-- ---- a step of reading

-- links, each with the comma behind it
abbrev pub fronted : List (List ℕ) → List ℕ
fronted [] = []
fronted (link ∷ links) = link ++ 44 ∷ fronted links

-- so many links are read of the text, and this is left of it: nothing, or what begins behind a comma
abbrev pub IsLeft : List ℕ → List (List ℕ) → Option (List ℕ) → Type 0
IsLeft text links None = text ≡ joined links
IsLeft text links (Some rest) = (text ≡ fronted links ++ rest) × (text ≡ [] → ⊥)

abbrev pub left_len : Option (List ℕ) → ℕ
left_len None = 0
left_len (Some rest) = length rest + 1
