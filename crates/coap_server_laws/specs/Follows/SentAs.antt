-- As what a response goes out: in the acknowledgement of a CON that is answered at once, and in a CON of its own where
-- the request waited (RFC 7252, sections 5.2.1 and 5.2.2).
use Rattle.std.specs.Prelude.{◌≡◌, ℕ, Bool, Some, List, [], ◌∷◌}
use Rattle.coap_types.specs.Past.{Ever, Always}
use Rattle.coap_types.specs.declared.message.Kind.TheVariants.{Con, Ack}
use Rattle.coap_codec.specs.Spelling.{message_bytes}
use Rattle.coap_layer.specs.Trace as L
use Rattle.coap_layer.specs.Trace.{with_head}
use Rattle.coap_layer.specs.declared.setup.Setup.{Setup}
use Rattle.coap_resource.specs.Limits.{Limits}
use Rattle.coap_exchange.specs.declared.answerer.Asked.{Asked}
use Rattle.coap_exchange.specs.AnswererTrace as E
use Rattle.coap_exchange.specs.AnswererSteps.{content_of}
use Rattle.coap_server.specs.Trace.{Call}
use Rattle.coap_server_laws.specs.Follows.Adds.{call_adds}
use Rattle.coap_server_laws.specs.Follows.GoesOut.{Sends}
use Rattle.coap_server.specs.Follows.Rests.{IsTick}
use Rattle.coap_server.specs.Follows.Serves.{hands}

-- the bytes of the acknowledgement with the response: it has the request's Message ID and token
abbrev pub ack_with : Asked → E.Response → List ℕ
ack_with a r = message_bytes (with_head Ack a.id.0 (content_of a r))

pub record InAck (a : Asked) (r : E.Response) (e : L.Entry) : Type 0 where
  pub call : e.call ≡ L.Reply a.from a.id.0 (ack_with a r)
  pub out : e.out ≡ record { to = a.from; bytes = ack_with a r } ∷ []

-- a CON that begins here, with the request's token
pub record InOwnCon (a : Asked) (r : E.Response) (e : L.Entry) : Type 0 where
  pub word : ℕ
  pub id : ℕ
  pub call : e.call ≡ L.Confirm a.from (content_of a r) word
  pub answer : e.answer ≡ L.Sent id
  pub out : e.out ≡ record { to = a.from; bytes = message_bytes (with_head Con id (content_of a r)) } ∷ []

module _ (limits : Limits) (szx : ℕ) (setup : Setup) where
  pub record SentHere (past : List Call) (c : Call) : Type 0 where
    pub at_once : (a : Asked) (r : E.Response) → hands c ≡ Some a → a.kind ≡ Con → Sends limits szx past c a r
        → Ever (InAck a r) (call_adds limits szx setup past c)
    pub later : (now : ℕ) (answer : Bool) (a : Asked) (r : E.Response) → IsTick now answer c
        → Sends limits szx past c a r
        → Ever (InOwnCon a r) (call_adds limits szx setup past c)

  abbrev pub AllSentSo : List Call → Type 0
  AllSentSo t = Always SentHere t
