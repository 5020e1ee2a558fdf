-- The Empty messages that answer an arrival, as datagrams and as calls of the message layer (RFC 7252, section 4.2).
use Rattle.std.specs.Prelude.{ℕ, Option, Some, None, List, [], ◌∷◌, ◌++◌, option_to_list}
use Rattle.coap_types.specs.declared.endpoint.Endpoint.{Endpoint}
use Rattle.coap_layer.specs.Machine.Steps.{Asked}
use Rattle.coap_layer.specs.Trace as L
pub use Rattle.coap_layer.specs.EmptyMessages.{ack_bytes, reset_bytes}

abbrev pub acknowledging : Endpoint → ℕ → List L.Packet
acknowledging to id = record { to = to; bytes = ack_bytes id } ∷ []

abbrev pub rejecting : Endpoint → ℕ → List L.Packet
rejecting to id = record { to = to; bytes = reset_bytes id } ∷ []

-- the replies that are asked of the message layer
abbrev pub reply_in : L.Call → Option L.Packet
reply_in (L.Reply to id bytes) = Some (record { to = to; bytes = bytes })
reply_in _ = None

abbrev pub replies_in : List Asked → List L.Packet
replies_in [] = []
replies_in (a ∷ earlier) = option_to_list (reply_in a.call) ++ replies_in earlier
