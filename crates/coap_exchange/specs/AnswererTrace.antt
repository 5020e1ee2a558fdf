-- The calls of the server's side of the request/response layer, and what it keeps (RFC 7252, section 5.2; RFC 7641,
-- section 4.2).
use Rattle.std.specs.Prelude.{ℕ, Bool, Option, None, List, []}
use Rattle.coap_types.specs.CoapOption.{CoapOption}
use Rattle.coap_types.specs.declared.endpoint.Endpoint.{Endpoint}
use Rattle.coap_codec.specs.Message.{Message}
use Rattle.coap_layer.specs.Trace as L
use Rattle.coap_exchange.specs.declared.answerer.Asked.{Asked}
use Rattle.coap_exchange.specs.declared.answerer.Due.{Due}
use Rattle.coap_exchange.specs.declared.answerer.Ended.{Ended}
use Rattle.coap_exchange.specs.declared.separate.Deferred.{Deferred}
use Rattle.coap_exchange.specs.declared.separate.Separate.{Separate}

-- a response or a notification, without what it has from its request
pub record Response : Type 0 where
  pub code : ℕ
  pub options : List CoapOption
  pub payload : List ℕ

-- where a message went, and its Message ID
pub record Sending : Type 0 where
  pub to : Endpoint
  pub id : ℕ

-- the latest moment, the request that may be answered or deferred now, those that are deferred and the separate
-- responses and notifications that are outstanding, in order, and that of them which the last input ended; what the
-- last datagram rejected of what isn't outstanding, as a NON
pub record Own : Type 0 where
  pub clock : ℕ
  pub pending : Option Asked
  pub deferred : List Deferred
  pub separate : List Separate
  pub ended : Option Ended
  pub unmatched : Option Sending

abbrev pub start : Own
start = record { clock = 0; pending = None; deferred = []; separate = []; ended = None; unmatched = None }

-- Each call has its arguments, what the message layer answered beneath it, and its answer. A datagram that arrives; the
-- response to the request that came with it, and its deferral; time passes; the response to a deferred request; could a
-- notification be sent there; a notification, in a CON and in a NON; a datagram is taken to be sent; the deferred
-- requests of a peer that never comes again are let go.
pub data Call : Type 0 where
  Incoming : (now : ℕ) (from : Endpoint) (bytes : List ℕ) (up : L.Answer) (answer : Option (Asked × Message)) → Call
  Answers : (asked : Asked) (response : Response) (below : L.Answer) → Call
  Defers : (now : ℕ) (asked : Asked) (delay : ℕ) (answer : Bool) → Call
  Ticks : (now : ℕ) (below : L.Answer) (room : Bool) (answer : Due) → Call
  Responds : (now : ℕ) (asked : Asked) (response : Response) (word : ℕ) (answer : ℕ) → Call
  Ready : (now : ℕ) (to : Endpoint) (answer : Bool) → Call
  Notifies : (now : ℕ) (to : Endpoint) (token : List ℕ) (response : Response) (word : ℕ) (answer : ℕ) → Call
  NotifiesPlain : (now : ℕ) (to : Endpoint) (token : List ℕ) (response : Response) (answer : ℕ) → Call
  Take : (answer : Option L.Packet) → Call
  Forgets : (peer : Endpoint) → Call
