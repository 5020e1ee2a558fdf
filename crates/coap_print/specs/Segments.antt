-- A path in a URI, and its segments (RFC 3986, section 3.3, and RFC 7252, section 6.5).
use Rattle.std.specs.Prelude.{ℕ, Bool, ◌||◌, ◌&&◌, ◌==◌, nat_le, List, [], ◌∷◌, codes, if◌then◌else◌}
use Rattle.std.specs.List.{flat_map, join_by, list_any}
use Rattle.percent_encoding.specs.Percent.{percent_encode_byte}

abbrev pub is_within : ℕ → ℕ → ℕ → Bool
is_within low high byte = nat_le low byte && nat_le byte high

-- a letter or a digit
abbrev pub is_alphanumeric : ℕ → Bool
is_alphanumeric byte = is_within 65 90 byte || (is_within 97 122 byte || is_within 48 57 byte)

-- a `pchar` that is not percent-encoded: `unreserved`, one of `sub-delims`, a colon or an at sign
abbrev pub is_pchar : ℕ → Bool
is_pchar byte = is_alphanumeric byte || list_any (λ sign. sign == byte) (codes "-._~!$&'()*+,;=:@")

-- a byte of a segment: itself, or a percent sign and its two digits (RFC 3986, section 2.1)
abbrev pub segment_byte : ℕ → List ℕ
segment_byte byte = if is_pchar byte then byte ∷ [] else percent_encode_byte byte

abbrev pub segment_text : List ℕ → List ℕ
segment_text bytes = flat_map segment_byte bytes

-- a slash, where one is wanted
abbrev pub slash_if : Bool → List ℕ
slash_if wanted = if wanted then codes "/" else []

-- the segments, with a slash between two; a slash where there is none (RFC 7252, section 6.5)
abbrev pub path_text : List (List ℕ) → List ℕ
path_text [] = codes "/"
path_text (segment ∷ segments) = join_by segment_text (codes "/") (segment ∷ segments)
