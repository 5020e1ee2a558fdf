-- The path that the options of a request say (RFC 7252, section 5.10.1).
use Rattle.std.specs.Prelude.{◌≡◌, ◌↔◌, ℕ, ◌+◌, ◌==◌, nat_le, nat_lt, List, [], ◌∷◌, length, map, Option, Some, None}
use Rattle.std.specs.Prelude.{if◌then◌else◌}
use Rattle.std.specs.List.{filter}
use Rattle.coap_types.specs.CoapOption.{CoapOption}
use Rattle.coap_types.specs.Path.{HoldsAtMost}
use Rattle.coap_types.specs.Recognised.{recognised}
use Rattle.coap_types.specs.declared.direction.Direction.TheVariants.{Request}
use Rattle.coap_types.specs.declared.option_number.TheConstants.{URI_PATH as uri_path}
use Rattle.coap_types.specs.declared.path.PathRefusal.{PathRefusal}
use Rattle.coap_types.specs.declared.path.PathRefusal.TheVariants.{SegmentTooLong, TooManySegments}
use Rattle.coap_types.specs.declared.path.TheConstants.{MAX_SEGMENT_LEN as max_segment_len}
use Rattle.coap_types.specs.declared.path.TheConstants.{MAX_SEGMENTS as max_segments}

-- the values of Uri-Path, in order
abbrev pub path_of : List CoapOption → List (List ℕ)
path_of options = map (λ o. o.value) (filter (λ o. o.number == uri_path) options)

-- why a path of so many segments takes no more of these, by the first that it does not take
abbrev pub refusal_after : ℕ → List (List ℕ) → Option PathRefusal
refusal_after count [] = None
refusal_after count (s ∷ ss) =
    if nat_lt max_segment_len (length s) then Some SegmentTooLong
    else if nat_le max_segments count then Some TooManySegments
    else refusal_after (count + 1) ss

-- why segments make no path
abbrev pub path_refusal : List (List ℕ) → Option PathRefusal
path_refusal segments = refusal_after 0 segments

-- of the options of a request that are recognised, too many segments alone refuse the path
abbrev pub PathsOfRecognised : Type 0
PathsOfRecognised =
    (options : List CoapOption)
    → path_refusal (path_of (recognised Request options))
    ≡ (if nat_lt max_segments (length (path_of (recognised Request options))) then Some TooManySegments else None)

-- segments make a path exactly where they keep within its bounds
abbrev pub MakesPathWithin : Type 0
MakesPathWithin = (segments : List (List ℕ)) → (path_refusal segments ≡ None)
    ↔ HoldsAtMost max_segments max_segment_len segments
