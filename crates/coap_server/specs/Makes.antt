-- What an input makes of a server (RFC 7252, sections 4.2 and 5.2): one step of its machine, whatever its exchanges and
-- the message layer beneath them answered.
use Rattle.std.specs.Prelude.{ℕ, Bool, Option, List}
use Rattle.coap_types.specs.declared.endpoint.Endpoint.{Endpoint}
use Rattle.coap_codec.specs.Message.{Message}
use Rattle.coap_layer.specs.Trace as L
use Rattle.coap_exchange.specs.declared.answerer.Asked.{Asked}
use Rattle.coap_exchange.specs.declared.answerer.Due.{Due}
use Rattle.coap_server.specs.Trace.{Feeds, Handling, Ticks}
use Rattle.coap_server.specs.Led.{State, Step}

-- A datagram arrives; time passes, and whether something was due.
pub data Input : Type 0 where
  Fed : (now : ℕ) (from : Endpoint) (bytes : List ℕ) (word : ℕ) → Input
  Ticked : (now : ℕ) (word : ℕ) (did : Bool) → Input

abbrev pub Makes : State → Input → State → Type 0
Makes s (Fed now from bytes word) t = (up : L.Answer) × (came : Option (Asked × Message)) × (h : Handling)
    × (sent : L.Answer) × Step s (Feeds now from bytes word up came h sent) t
Makes s (Ticked now word did) t = (below : L.Answer) × (room : Bool) × (due : Due) × (passed : ℕ) × (h : Handling)
    × (id : ℕ) × Step s (Ticks now word below room due passed h id did) t
