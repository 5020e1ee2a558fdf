-- The text of a path: its segments, joined by `/` (47).
use Rattle.std.specs.Prelude.{ℕ, Bool, List, [], ◌∷◌, ◌≡◌, ◌≢◌, ◌<◌, ◌==◌, All, Any, length, if◌then◌else◌}
use Rattle.std.specs.List.{join_with_byte, slice_split}
use Rattle.coap_types.specs.Path.{HoldsAtMost}
use Rattle.coap_types.specs.declared.path.PathRefusal.{PathRefusal}
use Rattle.coap_types.specs.declared.path.PathRefusal.TheVariants.{SegmentTooLong, TooManySegments, Memory}
use Rattle.coap_types.specs.declared.path.TheConstants.{MAX_SEGMENT_LEN as max_segment_len}
use Rattle.coap_types.specs.declared.path.TheConstants.{MAX_SEGMENTS as max_segments}

-- the text, of which one leading `/` is dropped
abbrev pub without_leading_slash : List ℕ → List ℕ
without_leading_slash [] = []
without_leading_slash (b ∷ bs) = if b == 47 then bs else b ∷ bs

abbrev pub is_slash : ℕ → Bool
is_slash b = b == 47

abbrev pub HasNoSlash : List ℕ → Type 0
HasNoSlash segment = All (λ b. b ≢ 47) segment

-- what stands between the slashes
abbrev pub parts : List ℕ → List (List ℕ)
parts text = slice_split is_slash text

-- Nothing is the path without segments. Any other text is its segments with a `/` between each two,
-- and none of them has a `/`. So the path of one empty segment has no text.
abbrev pub Joins : List ℕ → List (List ℕ) → Type 0
Joins [] segments = segments ≡ []
Joins (b ∷ bs) segments = ((b ∷ bs) ≡ join_with_byte 47 segments) × All HasNoSlash segments

-- the text says the path of these segments
abbrev pub IsPathText : List ℕ → List (List ℕ) → Type 0
IsPathText text segments = Joins (without_leading_slash text) segments

-- what the text says is no path: it has too many segments, or one that is too long
abbrev pub IsNoPath : List ℕ → Type 0
IsNoPath text = (segments : List (List ℕ)) → IsPathText text segments
    → HoldsAtMost max_segments max_segment_len segments → ⊥

-- the refusal is true of what the text says
abbrev pub IsTrueOf : PathRefusal → List ℕ → Type 0
IsTrueOf SegmentTooLong text = (segments : List (List ℕ)) × IsPathText text segments
    × Any (λ s. max_segment_len < length s) segments
IsTrueOf TooManySegments text = (segments : List (List ℕ)) × IsPathText text segments × (max_segments < length segments)
IsTrueOf Memory text = ⊥
