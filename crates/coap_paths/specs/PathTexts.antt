-- The text of a path: a slash (47) before each segment. And the path that a text spells: the segments between its
-- slashes, where the first slash may be left out.
use Rattle.std.specs.Prelude.{◌≡◌, ◌≤◌, ◌<◌, ◌≢◌, ◌==◌, ℕ, Bool, true, All, List, [], ◌∷◌, ◌++◌, length, take, map}
use Rattle.std.specs.Prelude.{if◌then◌else◌}
use Rattle.std.specs.List.{flat_map, slice_split}
use Rattle.coap_types.specs.Path.{HoldsAtMost}
use Rattle.coap_types.specs.declared.path.TheConstants.{MAX_SEGMENT_LEN as max_segment_len}
use Rattle.coap_types.specs.declared.path.TheConstants.{MAX_SEGMENTS as max_segments}
use Rattle.coap_paths.specs.Escapes.{escaped, is_escaped, unescaped}

-- a path as text: each segment after a slash, with its own slashes and percent signs escaped
abbrev pub text_of : List (List ℕ) → List ℕ
text_of path = flat_map (λ segment. 47 ∷ escaped segment) path

abbrev pub is_slash : ℕ → Bool
is_slash b = b == 47

abbrev pub without_slash : List ℕ → List ℕ
without_slash [] = []
without_slash (b ∷ bs) = if is_slash b then bs else b ∷ bs

-- what stands between the slashes
abbrev pub parts : List ℕ → List (List ℕ)
parts bytes = slice_split is_slash bytes

-- .. of a text that says a segment at all
abbrev pub segments_in : List ℕ → List (List ℕ)
segments_in [] = []
segments_in (b ∷ bs) = parts (b ∷ bs)

-- the path that a text spells
abbrev pub spelled : List ℕ → List (List ℕ)
spelled text = map unescaped (segments_in (without_slash text))

-- parts that make a path: two hexadecimal digits follow each percent sign, and the segments are no more (profile) and
-- no longer (RFC 7252, section 5.10) than a path holds
pub record Makes (parts : List (List ℕ)) : Type 0 where
  pub well : All (λ part. is_escaped part ≡ true) parts
  pub fits : HoldsAtMost max_segments max_segment_len (map unescaped parts)

-- a text that spells a path
abbrev pub SpellsPath : List ℕ → Type 0
SpellsPath text = Makes (segments_in (without_slash text))

-- the text of a path stands at the front of the room, and has so many bytes
abbrev pub IsText : List (List ℕ) → (room : List ℕ) (len : ℕ) → Type 0
IsText path room len = (len ≡ length (text_of path)) × (take len room ≡ text_of path)

abbrev pub HasNoSlash : List ℕ → Type 0
HasNoSlash bytes = All (λ b. b ≢ 47) bytes

-- the bytes are those before their first slash, it, and those after it
abbrev pub IsCut : List ℕ → List ℕ → List ℕ → Type 0
IsCut bytes before after = (bytes ≡ before ++ 47 ∷ after) × HasNoSlash before

-- a part that says a segment
pub record IsPart (part : List ℕ) : Type 0 where
  pub well : is_escaped part ≡ true
  pub short : length (unescaped part) ≤ max_segment_len

-- .. which is one of a path, with so many before it
abbrev pub IsFit : List ℕ → ℕ → Type 0
IsFit part before = IsPart part × (before < max_segments)
