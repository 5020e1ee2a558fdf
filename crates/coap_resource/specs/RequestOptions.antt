-- What the options of a request say (RFC 7252, sections 5.10.3, 5.10.4, 5.10.6 and 5.10.8; RFC 7959, section 2.2).
use Rattle.std.specs.Prelude.{ℕ, Bool, true, false, not, ◌&&◌, ◌||◌, ◌^◌, ◌==◌, nat_eq, nat_lt, min, List, [], ◌∷◌}
use Rattle.std.specs.Prelude.{Option, Some, None, if◌then◌else◌}
use Rattle.std.specs.Cmp.Lexicographic.{pointwise}
use Rattle.std.specs.Int.{w64, to_be_bytes}
use Rattle.coap_types.specs.CoapOption.{CoapOption}
use Rattle.coap_types.specs.BlockValue.{block_by}
use Rattle.coap_types.specs.OptionValues.{has, uint_at, value_of}
use Rattle.coap_types.specs.Piece.{offset_of}
use Rattle.coap_types.specs.Uint.{uint_value}
use Rattle.coap_types.specs.declared.block.Block.{Block}
use Rattle.coap_types.specs.declared.option_number.TheConstants as numbers
use Rattle.coap_resource.specs.Content.{Held}

-- the entity-tag of a version: 8 bytes, in network byte order
abbrev pub tag_of : ℕ → List ℕ
tag_of version = to_be_bytes w64 version

-- whether a value is the entity-tag of a version, byte for byte
abbrev pub is_tag_of : ℕ → List ℕ → Bool
is_tag_of version value = pointwise nat_eq value (tag_of version)

-- whether an ETag names this version
abbrev pub etag_names : ℕ → List CoapOption → Bool
etag_names version [] = false
etag_names version (o ∷ os) = (o.number == numbers.ETAG && is_tag_of version o.value) || etag_names version os

-- whether an If-Match value matches a version: the empty one matches any
abbrev pub matches : ℕ → List ℕ → Bool
matches version [] = true
matches version value = is_tag_of version value

-- whether an If-Match matches this version
abbrev pub if_match_names : ℕ → List CoapOption → Bool
if_match_names version [] = false
if_match_names version (o ∷ os) = (o.number == numbers.IF_MATCH && matches version o.value) || if_match_names version os

-- whether the preconditions fail: If-Match is there and matches nothing, or If-None-Match is there and the path
-- holds something
abbrev pub precondition_fails : Option Held → List CoapOption → Bool
precondition_fails None os = has numbers.IF_MATCH os
precondition_fails (Some held) os = (has numbers.IF_MATCH os && not (if_match_names held.version os))
    || has numbers.IF_NONE_MATCH os

-- a number of 16 bits
abbrev pub within_16 : Option ℕ → Option ℕ
within_16 None = None
within_16 (Some n) = if nat_lt n (2 ^ 16) then Some n else None

-- the Content-Format
abbrev pub format_of : List CoapOption → Option ℕ
format_of os = within_16 (uint_at numbers.CONTENT_FORMAT os)

-- whether a format is the one that a value asks for; no format is none
abbrev pub is_format : Option ℕ → Option ℕ → Bool
is_format None wanted = false
is_format (Some format) None = false
is_format (Some format) (Some wanted) = format == wanted

-- whether a representation of a format is acceptable: Accept is not there, or asks for it
abbrev pub accepts_by : Option (List ℕ) → Option ℕ → Bool
accepts_by None format = true
accepts_by (Some value) format = is_format format (uint_value value)

abbrev pub accepts : Option ℕ → List CoapOption → Bool
accepts format os = accepts_by (value_of numbers.ACCEPT os) format

-- the block that the number of a Block2 says; one with SZX 7 asks for none (it is rejected before)
abbrev pub block_said : Option ℕ → Option Block
block_said None = None
block_said (Some n) = block_by n

-- the block that Block2 asks for
abbrev pub block_of : List CoapOption → Option Block
block_of os = block_said (uint_at numbers.BLOCK2 os)

-- where the block that is asked for begins, 0 without Block2; M is ignored
abbrev pub offset_by : Option Block → ℕ
offset_by None = 0
offset_by (Some b) = offset_of b.num b.szx

-- the size exponent of the answer: the smaller of the request's and the server's
abbrev pub szx_by : Option Block → ℕ → ℕ
szx_by None szx = szx
szx_by (Some b) szx = min b.szx szx
