-- What a call of the layer hands up, begins, and leaves of the CONs that are outstanding.
use Rattle.std.specs.Prelude.{◌≡◌, ℕ, Option, Some, None, List, ◌++◌, option_to_list}
use Rattle.std.specs.List.{filter_map}
use Rattle.coap_types.specs.declared.endpoint.Endpoint.{Endpoint}
use Rattle.coap_codec.specs.Message.{Message}
use Rattle.coap_layer.specs.Trace.{Packet, Call, Request, Response, Answer, Becomes, Entry}
use Rattle.coap_layer.specs.Words.{Incoming, taken, Open, begun, begun_in, left_by}

-- the message that is handed up, of any kind (`handed_by` leaves out what comes in an ACK)
abbrev pub message_in : Answer → Option Message
message_in (Becomes (Request m kept)) = Some m
message_in (Becomes (Response m)) = Some m
message_in _ = None

-- the message from there with this Message ID that is remembered from this entry on
pub record IsTaken (from : Endpoint) (id : ℕ) (e : Entry) : Type 0 where
  pub message : Incoming
  pub is : taken e ≡ Some message
  pub from_is : message.from ≡ from
  pub id_is : message.message.id ≡ id

-- the entry is the first sending of this CON
abbrev pub IsBegun : Open → Entry → Type 0
IsBegun c e = begun e ≡ Some c

-- the entry of a call
abbrev pub entry_of : ℕ → Call → Answer → List Packet → Entry
entry_of at call answer out = record { at = at; call = call; answer = answer; out = out }

-- the CONs that are outstanding after it: those that it leaves, and that which it begins
abbrev pub opens_then : ℕ → Call → Answer → List Packet → List Open → List Open
opens_then at call answer out cs = filter_map (left_by (entry_of at call answer out)) cs
    ++ option_to_list (begun_in at call answer)
