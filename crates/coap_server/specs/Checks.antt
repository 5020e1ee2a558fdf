-- What a server checks of a request before it looks at its own state, in this order (RFC 7252, sections 5.4.1, 5.7.2,
-- 5.8 and 5.10; RFC 7959, section 2.2; the order, and the bound of segments, are a profile).
use Rattle.std.specs.Prelude.{ℕ, nat_lt, Bool, false, ◌||◌, not, is_some, Option, Some, None, List, length}
use Rattle.std.specs.Prelude.{if◌then◌else◌}
use Rattle.coap_types.specs.BlockValue.{block_by}
use Rattle.coap_types.specs.CoapOption.{CoapOption}
use Rattle.coap_types.specs.MethodCode.{method_of}
use Rattle.coap_types.specs.OptionValues.{has, uint_at}
use Rattle.coap_types.specs.Recognised.{lacks_critical, recognised}
use Rattle.coap_types.specs.RequestPath.{path_of}
use Rattle.coap_types.specs.declared.block.Block.{Block}
use Rattle.coap_types.specs.declared.direction.Direction.TheVariants as direction
use Rattle.coap_types.specs.declared.message.Kind.{Kind}
use Rattle.coap_types.specs.declared.message.Kind.TheVariants.{Con}
use Rattle.coap_types.specs.declared.message.TheConstants.Code as codes
use Rattle.coap_types.specs.declared.option_number.TheConstants.{BLOCK1 as block1, BLOCK2 as block2}
use Rattle.coap_types.specs.declared.option_number.TheConstants.{PROXY_URI as proxy_uri, PROXY_SCHEME as proxy_scheme}
use Rattle.coap_types.specs.declared.path.TheConstants.{MAX_SEGMENTS as max_segments}
use Rattle.coap_types.specs.declared.request.Method.{Method}
use Rattle.coap_types.specs.declared.request.Method.TheVariants.{Put, Post}
use Rattle.coap_codec.specs.Message.{Message}
use Rattle.coap_resource.specs.RequestOptions.{block_said}
use Rattle.coap_resource.specs.Serves.{Question}

-- the codes of the refusals
abbrev pub bad_request : ℕ
bad_request = codes.BAD_REQUEST.0

abbrev pub bad_option : ℕ
bad_option = codes.BAD_OPTION.0

abbrev pub method_not_allowed : ℕ
method_not_allowed = codes.METHOD_NOT_ALLOWED.0

abbrev pub proxying_not_supported : ℕ
proxying_not_supported = codes.PROXYING_NOT_SUPPORTED.0

abbrev pub asks : Message → List CoapOption
asks m = recognised direction.Request m.options

-- a Block option that says no block: SZX 7 is reserved (RFC 7959, section 2.2)
abbrev pub is_reserved : Option ℕ → Bool
is_reserved None = false
is_reserved (Some n) = not (is_some (block_by n))

-- What a request comes to: it is ignored; refused with a code; asked of the store; or it uploads a block, the
-- question's body, of what is asked then.
pub data Verdict : Type 0 where
  Ignored : Verdict
  Refused : (code : ℕ) → Verdict
  Asks : (question : Question) → Verdict
  Uploads : (question : Question) (block : Block) → Verdict

-- a NON with an option that is critical and not recognised has no response
abbrev pub bad_by : Kind → Verdict
bad_by Con = Refused bad_option
bad_by _ = Ignored

abbrev pub question : ℕ → Method → Message → Question
question szx method m = record {
  method = method;
  path = path_of (asks m);
  options = asks m;
  body = m.payload;
  szx = szx;
}

-- Block1 is of a PUT and a POST
abbrev pub uploading : Method → Question → Option Block → Verdict
uploading method q None = Asks q
uploading Put q (Some b) = Uploads q b
uploading Post q (Some b) = Uploads q b
uploading _ q (Some b) = Refused bad_request

abbrev pub asked_by : ℕ → Option Method → Message → Verdict
asked_by szx None m = Refused method_not_allowed
asked_by szx (Some method) m =
    if nat_lt max_segments (length (path_of (asks m))) then Refused bad_request
    else if is_reserved (uint_at block1 (asks m)) || is_reserved (uint_at block2 (asks m)) then Refused bad_request
    else uploading method (question szx method m) (block_said (uint_at block1 (asks m)))

abbrev pub verdict_on : ℕ → Message → Verdict
verdict_on szx m =
    if lacks_critical direction.Request m.options then bad_by m.kind
    else if has proxy_uri (asks m) || has proxy_scheme (asks m) then Refused proxying_not_supported
    else asked_by szx (method_of m.code) m
