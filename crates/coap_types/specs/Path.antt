-- A path: the list of its segments, each a list of bytes (RFC 7252, section 5.10.1).
use Rattle.std.specs.Prelude.{ℕ, ◌≤◌, List, length, map, All, Bool, nat_eq}
use Rattle.std.specs.Cmp.Lexicographic.{pointwise, slice_cmp}
use Rattle.std.specs.Ordering.{nat_cmp}
use Rattle.std.specs.declared.cmp.Ordering.{Ordering}
use Rattle.std.specs.declared.vec.Vec.{Vec}
use Rattle.coap_types.specs.declared.path.TheConstants.{MAX_SEGMENT_LEN as max_segment_len}
use Rattle.coap_types.specs.declared.path.TheConstants.{MAX_SEGMENTS as max_segments}
use Rattle.coap_types.specs.Bytes.{AreBytes}

-- the bytes of each segment, wherever they lie
abbrev pub segments_of : {Z : Type 0} → List (Vec ℕ Z) → List (List ℕ)
segments_of {Z} ss = map (λ (s : Vec ℕ Z). s.items) ss

-- at most so many segments, each of at most so many bytes
pub record HoldsAtMost (count len : ℕ) (path : List (List ℕ)) : Type 0 where
  pub few : length path ≤ count
  pub short : All (λ s. length s ≤ len) path

-- a path as its type bounds it, each segment of bytes
pub record IsPath (path : List (List ℕ)) : Type 0 where
  pub bounds : HoldsAtMost max_segments max_segment_len path
  pub bytes : All AreBytes path

-- equal by bytes, segment by segment
abbrev pub same_path : List (List ℕ) → List (List ℕ) → Bool
same_path = pointwise (pointwise nat_eq)

-- the lexicographic order of segments, each by its bytes
abbrev pub path_order : List (List ℕ) → List (List ℕ) → Ordering
path_order = slice_cmp (slice_cmp nat_cmp)
