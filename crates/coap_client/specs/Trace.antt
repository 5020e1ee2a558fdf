-- The calls of a client, its requests and its reports (RFC 7252, sections 5.1 and 5.2; RFC 7641, section 3).
use Rattle.std.specs.Prelude.{ℕ, Bool, true, false, Option, List, Result}
use Rattle.coap_types.specs.declared.endpoint.Endpoint.{Endpoint}
use Rattle.coap_types.specs.declared.request.Method.{Method}
use Rattle.coap_layer.specs.Trace as L
use Rattle.coap_exchange.specs.declared.asker.AskRefusal.{AskRefusal}
use Rattle.coap_exchange.specs.declared.asker.Event.{Event}
use Rattle.coap_exchange.specs.declared.asker.Turn.{Turn}
use Rattle.coap_client.specs.declared.refusals.CallRefusal.{CallRefusal}
use Rattle.coap_client.specs.declared.refusals.CancelRefusal.{CancelRefusal}

-- a request: what is asked for, of which resource; the format of the body, and the body; the ETags of the
-- representations that the client has; those of which one has to be there, and whether none may be there; the format
-- that is wanted
pub record Request : Type 0 where
  pub method : Method
  pub path : List (List ℕ)
  pub format : Option ℕ
  pub body : List ℕ
  pub etags : List (List ℕ)
  pub if_match : List (List ℕ)
  pub if_none_match : Bool
  pub accept : Option ℕ

-- What is reported. Of a GET: its representation, or that one which the client has is valid. Of the others: success.
-- Of an observation: a representation and its sequence number; its end by the server; its end by a cancel. Then:
-- another response; no response, as the exchange ended; why the blocks are no body; no Message ID or no token was free.
pub data Report : Type 0 where
  Body : (tag : Option (List ℕ)) (format : Option ℕ) (body : List ℕ) → Report
  Valid : (tag : Option (List ℕ)) → Report
  Done : (code : ℕ) → Report
  Value : (sequence : ℕ) (tag : Option (List ℕ)) (format : Option ℕ) (body : List ℕ) → Report
  Ended : (code : ℕ) → Report
  Cancelled : Report
  Failed : (code : ℕ) → Report
  Timeout : Report
  Reset : Report
  NoResponse : Report
  Changed : Report
  BadBlock : Report
  NoTag : Report
  TooLarge : Report
  NoIds : Report

-- a value of an observation is not the last report of its number, each other report is
abbrev pub is_value : Report → Bool
is_value (Value sequence tag format body) = true
is_value report = false

-- a report, with the number of the call or the observation
pub record Reported : Type 0 where
  pub number : ℕ
  pub report : Report

-- a request that was sent: the number of its call or observation, and its token
pub record Requested : Type 0 where
  pub number : ℕ
  pub token : List ℕ

-- Each call has its arguments, what the layers answered beneath it, and its answer. A request; an observation, its
-- cancel, and its end without a message; a datagram that arrives; time passes; a datagram is taken to be sent; a report
-- is taken; which request the last datagram or tick sent is asked for.
-- Beneath: what became of a request that was sent (`sent`, `token`), and of a token that was kept or released (`kept`).
pub data Call : Type 0 where
  Calls : (now : ℕ) (request : Request) (answer : Result ℕ CallRefusal) → Call
  Observes : (now : ℕ) (path : List (List ℕ)) (answer : Result ℕ CallRefusal) → Call
  Cancels : (now : ℕ) (number : ℕ) (answer : Option CancelRefusal) → Call
  Forgets : (number : ℕ) (kept : Bool) (answer : Bool) → Call
  Feeds :
      (now : ℕ) (from : Endpoint) (bytes : List ℕ) (word : ℕ) (up : L.Answer) (settled : Bool) (event : Option Event)
      (sent : L.Answer) (token : Result (List ℕ) AskRefusal) (kept : Bool) → Call
  Ticks :
      (now : ℕ) (word : ℕ) (below : L.Answer) (turn : Turn)
      (sent : L.Answer) (token : Result (List ℕ) AskRefusal) (kept : Bool) (answer : Bool) → Call
  NextOut : (answer : Option L.Packet) → Call
  NextReport : (answer : Option Reported) → Call
  Asked : (answer : Option Requested) → Call
