-- What a response has that a client tells (RFC 7252, sections 5.3.2 and 5.4.1; RFC 7641, section 3.6).
use Rattle.std.specs.Prelude.{◌≡◌, ◌≢◌, ◌⊎◌, ℕ, Bool, true, false, Option, Some, List}
use Rattle.coap_types.specs.Past.{Always}
use Rattle.coap_types.specs.Recognised.{lacks_critical, carries}
use Rattle.coap_types.specs.declared.direction.Direction.TheVariants.{Response}
use Rattle.coap_types.specs.declared.endpoint.Endpoint.{Endpoint}
use Rattle.coap_types.specs.declared.message.Kind.TheVariants.{Con, Non, Ack}
use Rattle.coap_types.specs.SameEndpoint.{same_endpoint}
use Rattle.coap_codec.specs.Message.{Message}
use Rattle.coap_layer.specs.Trace as L
use Rattle.coap_exchange.specs.declared.asker.Event.{Event}
use Rattle.coap_exchange.specs.declared.asker.Event.TheVariants as event
use Rattle.coap_exchange.specs.declared.asker.Exchange.{Exchange}
use Rattle.coap_exchange.specs.AskerTrace.{Call, Receive}
use Rattle.coap_exchange.specs.AskerArrivals.{has_token, observe}
use Rattle.coap_exchange.specs.AskerLaw.{own_of}
use Rattle.coap_exchange.specs.AskerFollows.{answered, carried}
use Rattle.coap_exchange.specs.Tokens.{is_kept}
use Rattle.coap_layer.specs.declared.setup.Setup.{Setup}

module _ (server : Endpoint) (setup : Setup) where
  -- the exchange that runs has the token and the Message ID of the message
  pub record Answers (past : List Call) (m : Message) : Type 0 where
    pub exchange : Exchange
    pub runs : (own_of server setup past).running ≡ Some exchange
    pub token : m.token ≡ exchange.token
    pub id : m.id ≡ exchange.id.0

  pub record TellsResponse (past : List Call) (c : Call) : Type 0 where
    -- each critical option of it is recognised (RFC 7252, section 5.4.1)
    pub understood : (m : Message) → carried c ≡ Some m → lacks_critical Response m.options ≡ false
    -- a piggybacked one matches in Message ID and token (section 5.3.2)
    pub piggybacked : (m : Message) → carried c ≡ Some m → m.kind ≡ Ack → Answers past m
    -- what answers a cancel is no notification that was under way (RFC 7641, section 3.6)
    pub cancelled :
        (m : Message) (x : Exchange) → answered c ≡ Some m → (own_of server setup past).running ≡ Some x
        → x.cancel ≡ true → m.kind ≢ Ack
        → carries Response observe m.options ≡ false

  abbrev pub AreMatched : List Call → Type 0
  AreMatched trace = Always TellsResponse trace

  -- a response from the server in which each critical option is recognised
  pub record IsSound (from : Endpoint) (m : Message) : Type 0 where
    pub there : same_endpoint from server ≡ true
    pub understood : lacks_critical Response m.options ≡ false

  pub record TellsKind (past : List Call) (c : Call) : Type 0 where
    -- with the token of the exchange that runs it is the answer: piggybacked, where the Message ID is that of the
    -- request (section 5.3.2); else, where it is no notification that was under way when the observation was
    -- cancelled
    pub answer :
        (now : ℕ) (from : Endpoint) (bytes : List ℕ) (settled : Bool) (answer : Option Event) (m : Message)
        (x : Exchange) → c ≡ Receive now from bytes (L.Becomes (L.Response m)) settled answer
        → IsSound from m → (own_of server setup past).running ≡ Some x → m.token ≡ x.token
        → ((m.kind ≡ Ack) × (m.id ≡ x.id.0)) ⊎ (((m.kind ≡ Con) ⊎ (m.kind ≡ Non))
        × ((x.cancel ≡ false) ⊎ (carries Response observe m.options ≡ false)))
        → answer ≡ Some (event.Answer m)
    -- with a kept token that is not that of the exchange it is a notification (RFC 7641, section 3.2)
    pub notice :
        (now : ℕ) (from : Endpoint) (bytes : List ℕ) (settled : Bool) (answer : Option Event) (m : Message)
        → c ≡ Receive now from bytes (L.Becomes (L.Response m)) settled answer
        → IsSound from m → has_token (own_of server setup past).running m.token ≡ false
        → is_kept m.token (own_of server setup past).kept ≡ true → (m.kind ≡ Con) ⊎ (m.kind ≡ Non)
        → answer ≡ Some (event.Notice m)

  abbrev pub AreToldAs : List Call → Type 0
  AreToldAs trace = Always TellsKind trace
