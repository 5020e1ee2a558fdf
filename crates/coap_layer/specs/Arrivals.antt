-- What a datagram is for the message layer: nothing that can be read, a fault behind a header, or a message (RFC 7252,
-- sections 3 and 4.2).
use Rattle.std.specs.Prelude.{◌≡◌, ◌⊎◌, ℕ, nat_lt, if◌then◌else◌, Bool, Option, Some, None, List, Result, Ok, Err}
use Rattle.std.specs.List.{list_all}
use Rattle.coap_types.specs.Bytes.{AreBytes}
use Rattle.coap_types.specs.declared.message.Id.{Id}
use Rattle.coap_types.specs.declared.message.Kind.{Kind}
use Rattle.coap_codec.specs.Faulty.{Faulty, head_of}
use Rattle.coap_codec.specs.IsSpelled.{is_spelled}
use Rattle.coap_codec.specs.Message.{Message, Spells}
use Rattle.coap_codec.specs.Decoded.{decoded}
use Rattle.coap_codec.specs.declared.fault.Reason.{Reason}

pub data Arrival : Type 0 where
  Unreadable : Arrival
  Faulted : (kind : Kind) (id : ℕ) → Arrival
  Whole : (message : Message) → Arrival

abbrev pub by_head : Option (Kind × Id) → Arrival
by_head None = Unreadable
by_head (Some head) = Faulted head.0 head.1.0

-- it is of bytes, and this is what the head of its first fault makes of it
abbrev pub ShowsFault : List ℕ → Arrival → Type 0
ShowsFault bytes what =
    AreBytes bytes × ((reason : Reason) × (at : ℕ) × Faulty bytes reason at × (what ≡ by_head (head_of reason bytes)))

-- neither a list of bytes nor the spelling of a message
pub record IsNeither (bytes : List ℕ) : Type 0 where
  pub no_bytes : AreBytes bytes → ⊥
  pub no_message : (m : Message) → Spells bytes m → ⊥

-- The message that the list spells, whatever numbers its token, values and payload have. Else, where it is of bytes,
-- what the head of its first fault says. Else nothing that can be read: code is handed bytes, so no datagram is such a
-- list.
abbrev pub Shows : List ℕ → Arrival → Type 0
Shows bytes (Whole m) = Spells bytes m
Shows bytes (Faulted kind id) = ShowsFault bytes (Faulted kind id)
Shows bytes Unreadable = ShowsFault bytes Unreadable ⊎ IsNeither bytes

-- the same as a function; `decoded` reads lists of bytes, so what it reads of another is tested

abbrev pub are_bytes : List ℕ → Bool
are_bytes bytes = list_all (λ b. nat_lt b 256) bytes

abbrev pub arrival_of : List ℕ → Result Message (Reason × ℕ) → Arrival
arrival_of bytes (Ok m) = if is_spelled bytes m then Whole m else Unreadable
arrival_of bytes (Err fault) = if are_bytes bytes then by_head (head_of fault.0 bytes) else Unreadable

abbrev pub arrival_at : List ℕ → Arrival
arrival_at bytes = arrival_of bytes (decoded bytes)
