-- The path that a URI says (RFC 7252, section 6.4), and the path of a URI that says a path (section 6.5). The text here
-- is what stands behind the first slash of a URI's path; where there is no slash, it is nothing.
use Rattle.std.specs.Prelude.{ℕ, ◌+◌, ◌-◌, ◌/◌, ◌%◌, ◌==◌, ◌&&◌, ◌||◌, ◌≡◌, Bool, true, false, nat_le, All}
use Rattle.std.specs.Prelude.{List, [], ◌∷◌, ◌++◌, fold, length, map, take, if◌then◌else◌}
use Rattle.std.specs.List.{flat_map}
use Rattle.std.specs.Str.{bytes_eq}
use Rattle.coap_types.specs.Path.{HoldsAtMost}
use Rattle.coap_types.specs.declared.path.TheConstants.{MAX_SEGMENT_LEN as max_segment_len}
use Rattle.coap_types.specs.declared.path.TheConstants.{MAX_SEGMENTS as max_segments}
use Rattle.coap_paths.specs.Escapes.{is_escaped, unescaped}
use Rattle.coap_paths.specs.PathTexts.{parts}

-- ---- dots (RFC 3986, section 5.2.4)

-- `.`, which stands for the segment that it is in, and `..`, which stands for the one above
abbrev pub is_same : List ℕ → Bool
is_same part = bytes_eq part (46 ∷ [])

abbrev pub is_above : List ℕ → Bool
is_above part = bytes_eq part (46 ∷ 46 ∷ [])

abbrev pub is_dots : List ℕ → Bool
is_dots part = is_same part || is_above part

-- all but the last one, where there is one
abbrev pub all_but_last : List (List ℕ) → List (List ℕ)
all_but_last kept = take (length kept - 1) kept

-- what is kept of the segments when one more comes: `.` goes, and `..` takes the one before it along
abbrev pub keeps : List (List ℕ) → List ℕ → List (List ℕ)
keeps kept part = if is_same part then kept else (if is_above part then all_but_last kept else kept ++ part ∷ [])

-- the last one is of dots
abbrev pub ends_in_dots : List (List ℕ) → Bool
ends_in_dots parts = fold (λ before part. is_dots part) false parts

-- the segments without those of dots; behind one of these at the end there is an empty one
abbrev pub resolved : List (List ℕ) → List (List ℕ)
resolved parts = fold keeps [] parts ++ (if ends_in_dots parts then [] ∷ [] else [])

-- ---- the path that the text says

-- one empty segment, which stands for none
abbrev pub is_root : List (List ℕ) → Bool
is_root ([] ∷ []) = true
is_root _ = false

abbrev pub without_root : List (List ℕ) → List (List ℕ)
without_root parts = if is_root parts then [] else parts

-- two hexadecimal digits follow each percent sign
abbrev pub AreEscaped : List ℕ → Type 0
AreEscaped text = All (λ part. is_escaped part ≡ true) (parts text)

-- the segments between the slashes, without dots, each with its escapes as bytes
abbrev pub named : List ℕ → List (List ℕ)
named text = map unescaped (without_root (resolved (parts text)))

-- the text says this path
pub record IsNamed (text : List ℕ) (path : List (List ℕ)) : Type 0 where
  pub escaped : AreEscaped text
  pub segments : path ≡ named text
  pub fits : HoldsAtMost max_segments max_segment_len path

-- ---- the text of a path

-- a letter or a digit, `-` `.` `_` `~`, which are unreserved (RFC 3986, section 2.3), one of `!$&'()*+,;=` (section
-- 2.2), `:` or `@`: what stands in a segment as it is (section 3.3)
abbrev pub stands : ℕ → Bool
stands b = (nat_le 97 b && nat_le b 122) || ((nat_le 64 b && nat_le b 90) || ((nat_le 48 b && nat_le b 59)
    || ((nat_le 38 b && nat_le b 46) || ((b == 33) || ((b == 36) || ((b == 61) || ((b == 95) || (b == 126))))))))

-- a hexadecimal digit: `0` to `9`, and `A` to `F`
abbrev pub digit_of : ℕ → ℕ
digit_of n = if nat_le n 9 then 48 + n else 55 + n

abbrev pub percent : ℕ → List ℕ
percent b = 37 ∷ digit_of (b / 16) ∷ digit_of (b % 16) ∷ []

abbrev pub uri_escape : ℕ → List ℕ
uri_escape b = if stands b then b ∷ [] else percent b

-- a segment: one that would be of dots has each byte escaped
abbrev pub uri_segment : List ℕ → List ℕ
uri_segment segment =
    if is_dots (flat_map uri_escape segment) then flat_map percent segment else flat_map uri_escape segment

-- a path: a slash before each segment, and one slash where there is none
abbrev pub uri_path : List (List ℕ) → List ℕ
uri_path [] = 47 ∷ []
uri_path (segment ∷ path) = flat_map (λ s. 47 ∷ uri_segment s) (segment ∷ path)

-- what stands behind its first slash
abbrev pub behind_slash : List ℕ → List ℕ
behind_slash [] = []
behind_slash (b ∷ bs) = bs
