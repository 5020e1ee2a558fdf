-- When a client tells that an exchange runs, and that a request was rejected (RFC 7252, sections 4.2 and 4.7).
use Rattle.std.specs.Prelude.{◌≡◌, ℕ, Bool, true, Some, List, Err}
use Rattle.coap_types.specs.Past.{Always}
use Rattle.coap_types.specs.declared.endpoint.Endpoint.{Endpoint}
use Rattle.coap_types.specs.declared.message.Kind.TheVariants.{Rst}
use Rattle.coap_types.specs.SameEndpoint.{same_endpoint}
use Rattle.coap_codec.specs.Message.{Message, Spells}
use Rattle.coap_exchange.specs.declared.asker.Event.TheVariants as event
use Rattle.coap_exchange.specs.declared.asker.AskRefusal.TheVariants as refusal
use Rattle.coap_exchange.specs.declared.asker.Exchange.{Exchange}
use Rattle.coap_exchange.specs.AskerTrace.{Request, Call, Ask, Receive}
use Rattle.coap_exchange.specs.AskerLaw.{own_of}
use Rattle.coap_exchange.specs.AskerFollows.{Open}
use Rattle.coap_layer.specs.declared.setup.Setup.{Setup}

-- Running is told exactly where an exchange runs (NSTART is 1: section 4.7).
pub record TellsRunning (past : List Call) (c : Call) : Type 0 where
  pub runs : (now w : ℕ) (r : Request) (below : _) → c ≡ Ask now r w below (Err refusal.Running) → (token : List ℕ)
      × Open token past
  pub told : (now w : ℕ) (r : Request) (below : _) (answer : _) (token : List ℕ) → c ≡ Ask now r w below answer
      → Open token past → answer ≡ Err refusal.Running

abbrev pub AreRefused : List Call → Type 0
AreRefused trace = Always TellsRunning trace

module _ (server : Endpoint) (setup : Setup) where
  -- A Reset that is told came from the server, and rejects the request of the exchange that runs (section 4.2): it is
  -- an Empty message with its Message ID
  pub record Rejects (past : List Call) (from : Endpoint) (bytes : List ℕ) : Type 0 where
    pub exchange : Exchange
    pub runs : (own_of server setup past).running ≡ Some exchange
    pub there : same_endpoint from server ≡ true
    pub message : Message
    pub spelled : Spells bytes message
    pub kind : message.kind ≡ Rst
    pub code : message.code ≡ 0
    pub id : message.id ≡ exchange.id.0

  abbrev pub AreRejected : List Call → Type 0
  AreRejected trace =
      Always (λ past c. (now : ℕ) (from : Endpoint) (bytes : List ℕ) (up : _) (settled : Bool)
      → c ≡ Receive now from bytes up settled (Some event.Reset) → Rejects past from bytes) trace
