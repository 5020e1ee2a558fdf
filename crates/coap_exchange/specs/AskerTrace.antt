-- The calls of the client's side of the request/response layer, and what it keeps (RFC 7252, section 5).
use Rattle.std.specs.Prelude.{ℕ, Bool, Option, None, List, [], Result}
use Rattle.coap_types.specs.CoapOption.{CoapOption}
use Rattle.coap_types.specs.declared.endpoint.Endpoint.{Endpoint}
use Rattle.coap_layer.specs.Trace as L
use Rattle.coap_exchange.specs.declared.asker.Event.{Event}
use Rattle.coap_exchange.specs.declared.asker.Exchange.{Exchange}
use Rattle.coap_exchange.specs.declared.asker.Turn.{Turn}
use Rattle.coap_exchange.specs.declared.asker.AskRefusal.{AskRefusal}

-- a request, without what the client gives it; one that cancels an observation has the token of that (RFC 7641,
-- section 3.6)
pub record Request : Type 0 where
  pub code : ℕ
  pub token : Option (List ℕ)
  pub options : List CoapOption
  pub payload : List ℕ

-- the latest moment, the server, the word that the tokens begin at and how many were given, the exchange that runs, the
-- tokens that are kept
pub record Own : Type 0 where
  pub clock : ℕ
  pub server : Endpoint
  pub word : ℕ
  pub given : ℕ
  pub running : Option Exchange
  pub kept : List (List ℕ)

abbrev pub start : Endpoint → ℕ → Own
start server word = record { clock = 0; server = server; word = word; given = 0; running = None; kept = [] }

-- Each call has its arguments, what the message layer answered beneath it, and its answer. A request; a datagram that
-- arrives; time passes; a token is kept, and is kept no more; a datagram is taken to be sent.
pub data Call : Type 0 where
  Ask : (now : ℕ) (request : Request) (word : ℕ) (below : L.Answer) (answer : Result (List ℕ) AskRefusal) → Call
  Receive : (now : ℕ) (from : Endpoint) (bytes : List ℕ) (up : L.Answer) (settled : Bool) (answer : Option Event) → Call
  Ticks : (now : ℕ) (below : L.Answer) (answer : Turn) → Call
  Keep : (token : List ℕ) (answer : Bool) → Call
  Release : (token : List ℕ) (answer : Bool) → Call
  Take : (answer : Option L.Packet) → Call
