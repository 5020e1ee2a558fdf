-- Where the responses come from that a client takes (RFC 7252, section 5.3.2).
use Rattle.std.specs.Prelude.{◌≡◌, ℕ, Bool, true, Option, Some, List, Result}
use Rattle.coap_types.specs.Past.{Always}
use Rattle.coap_types.specs.declared.endpoint.Endpoint.{Endpoint}
use Rattle.coap_types.specs.SameEndpoint.{same_endpoint}
use Rattle.coap_codec.specs.Message.{Message, Spells}
use Rattle.coap_layer.specs.Trace as L
use Rattle.coap_exchange.specs.declared.asker.AskRefusal.{AskRefusal}
use Rattle.coap_exchange.specs.declared.asker.Event.{Event}
use Rattle.coap_exchange.specs.AskerFollows.{message_told}
use Rattle.coap_client.specs.Trace.{Call, Feeds}

-- an answer and a notification came from the server, and are what the datagram spells
pub record CameFrom (server : Endpoint) (c : Call) : Type 0 where
  pub came :
      (now : ℕ) (from : Endpoint) (bytes : List ℕ) (word : ℕ) (up : L.Answer) (settled : Bool) (event : Option Event)
      (sent : L.Answer) (token : Result (List ℕ) AskRefusal) (kept : Bool) (m : Message)
      → c ≡ Feeds now from bytes word up settled event sent token kept → message_told event ≡ Some m
      → (same_endpoint from server ≡ true) × Spells bytes m

abbrev pub AreFromServer : Endpoint → List Call → Type 0
AreFromServer server trace = Always (λ past c. CameFrom server c) trace
