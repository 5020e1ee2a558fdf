-- The calls of a message layer: each with its moment, arguments, answer and what it sends (RFC 7252, section 4).
pub use Rattle.coap_layer.specs.declared.setup.Setup.{Setup}
use Rattle.std.specs.Prelude.{ℕ, Bool, Option, List}
use Rattle.coap_types.specs.CoapOption.{CoapOption}
use Rattle.coap_types.specs.declared.endpoint.Endpoint.{Endpoint}
use Rattle.coap_types.specs.declared.message.Kind.{Kind}
use Rattle.coap_codec.specs.Message.{Message}

-- what is to be sent: all of a message but its type and its Message ID, which the layer gives it
pub record Content : Type 0 where
  pub code : ℕ
  pub token : List ℕ
  pub options : List CoapOption
  pub payload : List ℕ

abbrev pub with_head : Kind → ℕ → Content → Message
with_head kind id c =
    record { kind = kind; code = c.code; id = id; token = c.token; options = c.options; payload = c.payload }

pub record Packet : Type 0 where
  pub to : Endpoint
  pub bytes : List ℕ

-- a datagram arrives; the reply to it; a CON and a NON to be sent; an end of retransmission; time passes; a datagram is
-- taken to be sent; could a CON be sent; is a Message ID free; the clock alone
pub data Call : Type 0 where
  Receive : (from : Endpoint) (bytes : List ℕ) → Call
  Reply : (to : Endpoint) (id : ℕ) (bytes : List ℕ) → Call
  Confirm : (to : Endpoint) (content : Content) (word : ℕ) → Call
  Plain : (to : Endpoint) (content : Content) → Call
  Settle : (to : Endpoint) (id : ℕ) → Call
  Ticks : Call
  Take : Call
  Room : (to : Endpoint) → Call
  AsksFree : Call
  Pass : Call

-- what becomes of a datagram that arrived; of a request that is handed up, also whether it is remembered; of a Reset,
-- whether it ends a CON or is of nothing that is outstanding
pub data Disposition : Type 0 where
  Dropped : Disposition
  Replayed : Disposition
  Rejected : Disposition
  Request : (message : Message) (kept : Bool) → Disposition
  Response : (message : Message) → Disposition
  Acked : (id : ℕ) → Disposition
  Reset : (id : ℕ) → Disposition
  Unmatched : (id : ℕ) → Disposition

pub data Answer : Type 0 where
  Becomes : (what : Disposition) → Answer
  Nothing : Answer
  Is : (holds : Bool) → Answer
  Sent : (id : ℕ) → Answer
  Busied : Answer
  NoIds : Answer
  Idle : Answer
  Copied : (to : Endpoint) (id : ℕ) → Answer
  Expired : (to : Endpoint) (id : ℕ) → Answer
  Gives : (packet : Option Packet) → Answer

-- one call, at the moment that counts (one before the last counts as the last), with its answer and what it sends
pub record Entry : Type 0 where
  pub at : ℕ
  pub call : Call
  pub answer : Answer
  pub out : List Packet
