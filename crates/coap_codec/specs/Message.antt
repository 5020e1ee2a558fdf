-- A message, and the bytes that spell it (RFC 7252, section 3).
use Rattle.std.specs.Prelude.{◌≡◌, ℕ, ◌+◌, ◌*◌, ◌^◌, ◌<◌, ◌≤◌, List, [], ◌∷◌, ◌++◌, length}
use Rattle.byteorder.specs.Endian.{big_bytes}
use Rattle.coap_types.specs.CoapOption.{CoapOption, options_of}
use Rattle.coap_types.specs.declared.message.Kind.{Kind}
use Rattle.coap_types.specs.declared.message.Kind.TheVariants.{Con, Non, Ack, Rst}
use Rattle.coap_types.specs.declared.message.TheConstants.Code.{EMPTY as empty_code}
use Rattle.coap_types.specs.declared.options.Opt.{Opt}
use Rattle.coap_codec.specs.Options.{Options}
use Rattle.coap_codec.specs.declared.head.Head.{Head}
use Rattle.coap_types.specs.declared.token.TheConstants.{MAX_TOKEN_LEN as max_token_len}
use Rattle.coap_types.specs.declared.message.TheConstants.{MESSAGE_IDS as message_ids}

-- A message, wherever it lies in memory. One without a payload has the empty payload.
pub record Message : Type 0 where
  pub kind : Kind
  pub code : ℕ
  pub id : ℕ
  pub token : List ℕ
  pub options : List CoapOption
  pub payload : List ℕ

-- the message of this head, with these options and this payload
abbrev pub message : Head → List Opt → List ℕ → Message
message head options payload = record {
  kind = head.kind;
  code = head.code.0;
  id = head.id.0;
  token = head.token;
  options = options_of options;
  payload = payload;
}

-- the two bits of the type
abbrev pub kind_number : Kind → ℕ
kind_number Con = 0
kind_number Non = 1
kind_number Ack = 2
kind_number Rst = 3

-- The header: version 1 in two bits, the type in two, the token length in four; the code; the Message ID, most
-- significant byte first.
abbrev pub header : Message → List ℕ
header m = (1 * 64 + (kind_number m.kind * 16 + length m.token)) ∷ m.code ∷ big_bytes 2 m.id

-- Behind the options: nothing, or the payload marker ff and at least one byte of payload.
abbrev pub marked : List ℕ → List ℕ
marked [] = []
marked (b ∷ bytes) = 255 ∷ b ∷ bytes

-- The bytes spell the message: the header, a token of 0 to 8 bytes, the options from number 0 on, the payload. An
-- Empty message, code 0.00, is its header alone (section 4.1).
pub record Spells (bytes : List ℕ) (m : Message) : Type 0 where
  pub code : m.code < 2 ^ 8
  pub id : m.id < message_ids
  pub token : length m.token ≤ max_token_len
  pub option_bytes : List ℕ
  pub options : Options 0 option_bytes m.options
  pub parts : bytes ≡ header m ++ (m.token ++ (option_bytes ++ marked m.payload))
  pub empty : m.code ≡ empty_code.0 → length bytes ≡ 4

-- some bytes spell it
abbrev pub HasSpelling : Message → Type 0
HasSpelling m = (bytes : List ℕ) × Spells bytes m
