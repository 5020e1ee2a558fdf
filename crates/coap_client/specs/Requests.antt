-- The request that carries each operation, block by block (RFC 7252, sections 5.8 and 5.10; RFC 7641, section 2; RFC
-- 7959, sections 2.4 and 2.5).
use Rattle.std.specs.Prelude.{ℕ, nat_lt, Bool, true, false, Option, Some, None, List, [], ◌∷◌, ◌++◌, length, map}
use Rattle.std.specs.Prelude.{if◌then◌else◌}
use Rattle.coap_types.specs.CoapOption.{CoapOption, option}
use Rattle.coap_types.specs.OptionValues.{uint_option}
use Rattle.coap_types.specs.Uint.{uint}
use Rattle.coap_types.specs.MethodCode.{method_code}
use Rattle.coap_types.specs.declared.request.Method.{Method}
use Rattle.coap_types.specs.declared.request.Method.TheVariants.{Get, Post, Put, Delete}
use Rattle.coap_types.specs.BlockValue.{block_value}
use Rattle.coap_block.specs.declared.fetch_progress.Asked.{Asked}
use Rattle.coap_types.specs.Piece.{size_of, part_of}
use Rattle.coap_block.specs.UploadStep.{UploadState, block_to_send}
use Rattle.coap_exchange.specs.AskerTrace as E
use Rattle.coap_types.specs.declared.option_number.TheConstants.{IF_MATCH as if_match, ETAG as etag}
use Rattle.coap_types.specs.declared.option_number.TheConstants.{IF_NONE_MATCH as if_none_match, OBSERVE as observe}
use Rattle.coap_types.specs.declared.option_number.TheConstants.{URI_PATH as uri_path, CONTENT_FORMAT as content_format}
use Rattle.coap_types.specs.declared.option_number.TheConstants.{ACCEPT as accept, BLOCK2 as block2, BLOCK1 as block1}
use Rattle.coap_client.specs.Trace.{Request}
use Rattle.coap_client.specs.Own.{Transfer, Fetches, Uploads, Single, Operation, Calling, Registering}
use Rattle.coap_client.specs.Own.{Fetching, Cancelling, Dropped, Observation}
use Rattle.coap_client.specs.Observations.{observed_path, token_of, fetch_of}

abbrev pub flag_option : ℕ → Bool → List CoapOption
flag_option number true = option number [] ∷ []
flag_option number false = []

-- the options of each message of a call but the Block option, in the order of their numbers; other fields are not sent

abbrev pub path_options : List (List ℕ) → List CoapOption
path_options path = map (option uri_path) path

abbrev pub before_path : Method → Request → List CoapOption
before_path Get r = map (option etag) r.etags
before_path method r = map (option if_match) r.if_match ++ flag_option if_none_match r.if_none_match

abbrev pub after_path : Method → Request → List CoapOption
after_path Get r = uint_option accept r.accept
after_path Post r = uint_option content_format r.format
after_path Put r = uint_option content_format r.format
after_path Delete r = []

abbrev pub options_of : Request → List CoapOption
options_of r = before_path r.method r ++ (path_options r.path ++ after_path r.method r)

-- the block to ask for, none at the start of a Block2 transfer; the block to send, none of a body that fits one

abbrev pub block2_option : Option Asked → List CoapOption
block2_option None = []
block2_option (Some asked) = option block2 (uint
    (block_value (record { num = asked.num; more = false; szx = asked.szx }))) ∷ []

abbrev pub is_longer : UploadState → Bool
is_longer u = nat_lt (size_of u.szx) (length u.body)

abbrev pub block1_option : UploadState → List CoapOption
block1_option u = if is_longer u then option block1 (uint (block_value (block_to_send u))) ∷ [] else []

abbrev pub block_option : Transfer → List CoapOption
block_option (Fetches f) = block2_option f.asked
block_option (Uploads u) = block1_option u
block_option Single = []

abbrev pub payload_of : Transfer → List ℕ
payload_of (Fetches f) = []
payload_of (Uploads u) = part_of u.body u.num u.szx
payload_of Single = []

abbrev pub get : Option (List ℕ) → List CoapOption → E.Request
get token options = record { code = (method_code Get).0; token = token; options = options; payload = [] }

-- A fetch for an observation asks for blocks alone; a registration has Observe 0, and a cancel Observe 1 and the token
-- of the observation (RFC 7641, sections 2 and 3.6). What is dropped asks nothing.
abbrev pub message_of : List Observation → Operation → E.Request
message_of os (Calling number r t) = record {
  code = (method_code r.method).0;
  token = None;
  options = options_of r ++ block_option t;
  payload = payload_of t;
}
message_of os (Registering number path) = get None (option observe (uint 0) ∷ path_options path)
message_of os (Fetching number) = get None (path_options (observed_path number os)
    ++ block2_option (fetch_of number os))
message_of os (Cancelling number) = get (token_of number os)
    (option observe (uint 1) ∷ path_options (observed_path number os))
message_of os Dropped = get None []
