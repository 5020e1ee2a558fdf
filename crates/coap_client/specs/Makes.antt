-- What an input makes of a client (RFC 7252, sections 4.2 and 5.2): one step of its machine, whatever its exchanges and
-- the message layer beneath them answered.
use Rattle.std.specs.Prelude.{ℕ, Bool, Option, List, Result}
use Rattle.coap_types.specs.declared.endpoint.Endpoint.{Endpoint}
use Rattle.coap_layer.specs.Trace as L
use Rattle.coap_exchange.specs.declared.asker.AskRefusal.{AskRefusal}
use Rattle.coap_exchange.specs.declared.asker.Event.{Event}
use Rattle.coap_exchange.specs.declared.asker.Turn.{Turn}
use Rattle.coap_client.specs.Trace.{Feeds, Ticks, Forgets}
use Rattle.coap_client.specs.Led.{State, Step}

-- A datagram arrives; time passes, and whether something was due; an observation is forgotten, and whether it was live.
pub data Input : Type 0 where
  Fed : (now : ℕ) (from : Endpoint) (bytes : List ℕ) (word : ℕ) → Input
  Ticked : (now : ℕ) (word : ℕ) (did : Bool) → Input
  Forgotten : (number : ℕ) (was : Bool) → Input

abbrev pub Makes : State → Input → State → Type 0
Makes s (Fed now from bytes word) t = (up : L.Answer) × (settled : Bool) × (event : Option Event) × (sent : L.Answer)
    × (token : Result (List ℕ) AskRefusal) × (kept : Bool)
    × Step s (Feeds now from bytes word up settled event sent token kept) t
Makes s (Ticked now word did) t = (below : L.Answer) × (due : Turn) × (sent : L.Answer)
    × (token : Result (List ℕ) AskRefusal) × (kept : Bool) × Step s (Ticks now word below due sent token kept did) t
Makes s (Forgotten number was) t = (kept : Bool) × Step s (Forgets number kept was) t
