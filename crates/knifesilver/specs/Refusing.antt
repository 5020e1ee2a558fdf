-- A request that is refused before it is fed (RFC 7252, sections 5.2.1 and 5.9.2).
use Rattle.std.specs.Prelude.{◌≡◌, ◌≤◌, ℕ, ◌/◌, ◌==◌, ◌||◌, Bool, List, [], length, take}
use Rattle.coap_types.specs.Roles.{role_of}
use Rattle.coap_types.specs.declared.message.Kind.TheVariants.{Con, Ack}
use Rattle.coap_types.specs.declared.role.Role.TheVariants.{Request}
use Rattle.coap_codec.specs.Message.{Message, Spells}

-- a code of class 4 or 5: an error (section 5.9)
abbrev pub is_error : ℕ → Bool
is_error code = (code / 32 == 4) || (code / 32 == 5)

-- a Confirmable request
pub record IsAsked (m : Message) : Type 0 where
  pub kind : m.kind ≡ Con
  pub role : role_of m.code ≡ Request

-- its answer: the acknowledgement of its Message ID, with its token and this code, and nothing else
abbrev pub refusal_of : Message → ℕ → Message
refusal_of m code =
    record { kind = Ack; code = code; id = m.id; token = m.token; options = []; payload = [] }

-- the datagram spells a Confirmable request, and so many bytes at the front of the room spell that answer
pub record IsRefusal (datagram : List ℕ) (code : ℕ) (room : List ℕ) (len : ℕ) : Type 0 where
  pub asked : Message
  pub spelled : Spells datagram asked
  pub is : IsAsked asked
  pub fits : len ≤ length room
  pub answers : Spells (take len room) (refusal_of asked code)
