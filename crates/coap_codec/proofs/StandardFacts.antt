-- Figures of RFC 7252, said of the specs, so that a slip in a definition or in a test does not check.
use Rattle.std.proofs.Common.{◌≡◌, ℕ, true, List, [], ◌∷◌, Ok, Err, refl, arith}
use Rattle.std.specs.Prelude.{nat_lt, codes}
use Rattle.std.specs.List.{list_all}
use Rattle.coap_types.specs.declared.message.Kind.TheVariants.{Con, Non, Ack, Rst}
use Rattle.coap_types.proofs.Facts.Bytes.{bytes_are}
use Rattle.coap_codec.specs.Extension.{Ext}
use Rattle.coap_codec.specs.Message.{Message, Spells}
use Rattle.coap_codec.specs.Faulty.{Faulty}
use Rattle.coap_codec.specs.declared.fault.Reason.{Reason}
use Rattle.coap_codec.specs.declared.fault.Reason.TheVariants.{Short, Version, TokenLength, TokenCut, EmptyNotBare}
use Rattle.coap_codec.specs.declared.fault.Reason.TheVariants.{DeltaReserved, LengthReserved, OptionCut, NumberTooLarge}
use Rattle.coap_codec.specs.declared.fault.Reason.TheVariants.{NoPayload}
use Rattle.coap_codec.specs.Reading.{extended, value_at, nibbles_at, option_at, walk_of, walk, payload_at, frame_fault}
use Rattle.coap_codec.specs.Reading.{body_at}
use Rattle.coap_codec.specs.Decoded.{decoded}
use Rattle.coap_codec.proofs.Datagrams.ReadAsSpelled.{message_reads, message_faults}

-- ---- extended numbers (section 3.1)

pub twelve : Ext 12 12 []
twelve = (omega arith, refl)

pub thirteen : Ext 13 13 (0 ∷ [])
thirteen = (omega arith, refl, refl)

-- 268
pub last_of_one_byte : Ext 268 13 (255 ∷ [])
last_of_one_byte = (omega arith, refl, refl)

-- 269
pub first_of_two_bytes : Ext 269 14 (0 ∷ 0 ∷ [])
first_of_two_bytes = (omega arith, omega arith, refl, refl)

-- 65535, the greatest option number
pub greatest_number : Ext 65535 14 (254 ∷ 242 ∷ [])
greatest_number = (omega arith, omega arith, refl, refl)

-- 65804, the greatest length
pub greatest_length : Ext 65804 14 (255 ∷ 255 ∷ [])
greatest_length = (omega arith, omega arith, refl, refl)

-- ---- messages, from their bytes

spelled : (bytes : List ℕ) (m : Message) → list_all (λ b. nat_lt b 256) bytes ≡ true → decoded bytes ≡ Ok m
    → Spells bytes m
spelled bytes m fits read = message_reads bytes (bytes_are bytes fits) m read

-- a Confirmable request, GET /temperature, and its piggybacked response (Appendix A)
pub request : Spells (64 ∷ 1 ∷ 125 ∷ 52 ∷ 187 ∷ codes "temperature")
    (record {
      kind = Con;
      code = 1;
      id = 32052;
      token = [];
      options = record { number = 11; value = codes "temperature" } ∷ [];
      payload = [];
    })
unfolding decoded frame_fault body_at walk walk_of option_at nibbles_at value_at extended payload_at
request = spelled _ _ refl refl

pub response : Spells (96 ∷ 69 ∷ 125 ∷ 52 ∷ 255 ∷ codes "22.3 C")
    (record { kind = Ack; code = 69; id = 32052; token = []; options = []; payload = codes "22.3 C" })
unfolding decoded frame_fault body_at walk walk_of option_at nibbles_at value_at extended payload_at
response = spelled _ _ refl refl

-- the same with a token
pub request_of_a_token : Spells (65 ∷ 1 ∷ 125 ∷ 53 ∷ 32 ∷ 187 ∷ codes "temperature")
    (record {
      kind = Con;
      code = 1;
      id = 32053;
      token = 32 ∷ [];
      options = record { number = 11; value = codes "temperature" } ∷ [];
      payload = [];
    })
unfolding decoded frame_fault body_at walk walk_of option_at nibbles_at value_at extended payload_at
request_of_a_token = spelled _ _ refl refl

pub response_of_a_token : Spells (97 ∷ 69 ∷ 125 ∷ 53 ∷ 32 ∷ 255 ∷ codes "22.3 C")
    (record { kind = Ack; code = 69; id = 32053; token = 32 ∷ []; options = []; payload = codes "22.3 C" })
unfolding decoded frame_fault body_at walk walk_of option_at nibbles_at value_at extended payload_at
response_of_a_token = spelled _ _ refl refl

-- an Empty Confirmable message, and the Reset that answers it (sections 4.1 and 4.3)
pub ping : Spells (64 ∷ 0 ∷ 0 ∷ 1 ∷ [])
    (record { kind = Con; code = 0; id = 1; token = []; options = []; payload = [] })
unfolding decoded frame_fault body_at walk walk_of option_at nibbles_at value_at extended payload_at
ping = spelled _ _ refl refl

pub reset : Spells (112 ∷ 0 ∷ 0 ∷ 1 ∷ [])
    (record { kind = Rst; code = 0; id = 1; token = []; options = []; payload = [] })
unfolding decoded frame_fault body_at walk walk_of option_at nibbles_at value_at extended payload_at
reset = spelled _ _ refl refl

-- an option of the greatest number, with an empty value (section 3.1)
pub greatest_option : Spells (80 ∷ 1 ∷ 0 ∷ 1 ∷ 224 ∷ 254 ∷ 242 ∷ [])
    (record {
      kind = Non;
      code = 1;
      id = 1;
      token = [];
      options = record { number = 65535; value = [] } ∷ [];
      payload = [];
    })
unfolding decoded frame_fault body_at walk walk_of option_at nibbles_at value_at extended payload_at
greatest_option = spelled _ _ refl refl

-- ---- faults

at_fault : (bytes : List ℕ) (reason : Reason) (at : ℕ) → list_all (λ b. nat_lt b 256) bytes ≡ true
    → decoded bytes ≡ Err (reason, at) → Faulty bytes reason at
at_fault bytes reason at fits read = message_faults bytes (bytes_are bytes fits) reason at read

-- fewer than four bytes
pub no_header : Faulty (64 ∷ []) Short 1
unfolding decoded frame_fault body_at walk walk_of option_at nibbles_at value_at extended payload_at
no_header = at_fault (64 ∷ []) Short 1 refl refl

-- version 2
pub no_version : Faulty (128 ∷ 1 ∷ 0 ∷ 1 ∷ []) Version 0
unfolding decoded frame_fault body_at walk walk_of option_at nibbles_at value_at extended payload_at
no_version = at_fault (128 ∷ 1 ∷ 0 ∷ 1 ∷ []) Version 0 refl refl

-- a token length of 9
pub long_token : Faulty (73 ∷ 1 ∷ 18 ∷ 52 ∷ []) TokenLength 0
unfolding decoded frame_fault body_at walk walk_of option_at nibbles_at value_at extended payload_at
long_token = at_fault (73 ∷ 1 ∷ 18 ∷ 52 ∷ []) TokenLength 0 refl refl

-- a token length of 2, and one byte
pub cut_token : Faulty (66 ∷ 1 ∷ 0 ∷ 1 ∷ 10 ∷ []) TokenCut 5
unfolding decoded frame_fault body_at walk walk_of option_at nibbles_at value_at extended payload_at
cut_token = at_fault (66 ∷ 1 ∷ 0 ∷ 1 ∷ 10 ∷ []) TokenCut 5 refl refl

-- an Empty message with a byte behind the Message ID
pub not_bare : Faulty (64 ∷ 0 ∷ 0 ∷ 1 ∷ 1 ∷ []) EmptyNotBare 4
unfolding decoded frame_fault body_at walk walk_of option_at nibbles_at value_at extended payload_at
not_bare = at_fault (64 ∷ 0 ∷ 0 ∷ 1 ∷ 1 ∷ []) EmptyNotBare 4 refl refl

-- a delta nibble 15 that is no payload marker, behind an option
pub reserved_delta : Faulty (64 ∷ 1 ∷ 0 ∷ 1 ∷ 177 ∷ 116 ∷ 241 ∷ []) DeltaReserved 6
unfolding decoded frame_fault body_at walk walk_of option_at nibbles_at value_at extended payload_at
reserved_delta = at_fault (64 ∷ 1 ∷ 0 ∷ 1 ∷ 177 ∷ 116 ∷ 241 ∷ []) DeltaReserved 6 refl refl

-- a length nibble 15
pub reserved_length : Faulty (64 ∷ 1 ∷ 0 ∷ 1 ∷ 31 ∷ []) LengthReserved 4
unfolding decoded frame_fault body_at walk walk_of option_at nibbles_at value_at extended payload_at
reserved_length = at_fault (64 ∷ 1 ∷ 0 ∷ 1 ∷ 31 ∷ []) LengthReserved 4 refl refl

-- an extended length that is cut
pub cut_extension : Faulty (64 ∷ 1 ∷ 0 ∷ 1 ∷ 221 ∷ 0 ∷ []) OptionCut 6
unfolding decoded frame_fault body_at walk walk_of option_at nibbles_at value_at extended payload_at
cut_extension = at_fault (64 ∷ 1 ∷ 0 ∷ 1 ∷ 221 ∷ 0 ∷ []) OptionCut 6 refl refl

-- a value that is cut
pub cut_value : Faulty (64 ∷ 1 ∷ 0 ∷ 1 ∷ 178 ∷ 116 ∷ []) OptionCut 6
unfolding decoded frame_fault body_at walk walk_of option_at nibbles_at value_at extended payload_at
cut_value = at_fault (64 ∷ 1 ∷ 0 ∷ 1 ∷ 178 ∷ 116 ∷ []) OptionCut 6 refl refl

-- an option behind that of the greatest number
pub large_number : Faulty (64 ∷ 1 ∷ 0 ∷ 1 ∷ 224 ∷ 254 ∷ 242 ∷ 16 ∷ []) NumberTooLarge 7
unfolding decoded frame_fault body_at walk walk_of option_at nibbles_at value_at extended payload_at
large_number = at_fault (64 ∷ 1 ∷ 0 ∷ 1 ∷ 224 ∷ 254 ∷ 242 ∷ 16 ∷ []) NumberTooLarge 7 refl refl

-- a payload marker with no payload
pub bare_marker : Faulty (64 ∷ 1 ∷ 18 ∷ 52 ∷ 255 ∷ []) NoPayload 5
unfolding decoded frame_fault body_at walk walk_of option_at nibbles_at value_at extended payload_at
bare_marker = at_fault (64 ∷ 1 ∷ 18 ∷ 52 ∷ 255 ∷ []) NoPayload 5 refl refl
