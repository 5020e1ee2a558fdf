-- Which exchange of a client is open, since when, and how late it ends without an answer (RFC 7252, sections 4.2, 5.2.2
-- and 5.3).
use Rattle.std.specs.Prelude.{◌≡◌, ◌⊎◌, ◌≤◌, ℕ, ◌+◌, ◌*◌, Bool, false, Option, Some, None, is_some, List, [], ◌∷◌}
use Rattle.std.specs.Prelude.{Result}
use Rattle.coap_types.specs.Past.{Always}
use Rattle.coap_types.specs.Recognised.{carries}
use Rattle.coap_types.specs.declared.direction.Direction.TheVariants.{Response}
use Rattle.coap_types.specs.declared.endpoint.Endpoint.{Endpoint}
use Rattle.coap_types.specs.declared.message.Kind.TheVariants.{Con, Non, Ack}
use Rattle.coap_types.specs.declared.transmission.TheConstants.{ACK_TIMEOUT_MS as ack_timeout}
use Rattle.coap_types.specs.declared.transmission.TheConstants.{EXCHANGE_LIFETIME_MS as exchange_lifetime}
use Rattle.coap_types.specs.declared.transmission.TheConstants.{FAILURE_TIMEOUTS as failure_timeouts}
use Rattle.coap_codec.specs.Message.{Message}
use Rattle.coap_layer.specs.Trace as L
use Rattle.coap_layer.specs.declared.setup.Setup.{Setup}
use Rattle.coap_block.specs.Sizes.{Sizes}
use Rattle.coap_exchange.specs.declared.asker.AskRefusal.{AskRefusal}
use Rattle.coap_exchange.specs.declared.asker.Event.{Event}
use Rattle.coap_exchange.specs.declared.asker.Exchange.{Exchange}
use Rattle.coap_exchange.specs.AskerArrivals.{observe}
use Rattle.coap_exchange.specs.AskerFollows.{Begun}
use Rattle.coap_exchange.specs.AskerFollows as A
use Rattle.coap_exchange.specs.AskerLaw as X
use Rattle.coap_exchange.specs.AskerResponses.{IsSound}
use Rattle.coap_client.specs.Trace.{Call, Feeds, Timeout, NoResponse}
use Rattle.coap_client.specs.Own.{Operation}
use Rattle.coap_client.specs.Law.{own_of, lower_of}
use Rattle.coap_client_laws.specs.Follows.Answered.{IsSentFor}
use Rattle.coap_client_laws.specs.Follows.Clock.{moment_of}
use Rattle.coap_client_laws.specs.Follows.Ends.{ends_as}
use Rattle.coap_client.specs.Sendings.{Sending, sends, hears, last_sent}

module _ (sizes : Sizes) where
  -- a request is sent for the first time here, at this moment: an exchange begins
  pub record BeginsAt (at : ℕ) (past : List Call) (c : Call) : Type 0 where
    pub sending : Sending
    pub sends_it : sends (own_of sizes past) c ≡ Some sending
    pub moment : moment_of (own_of sizes past) c ≡ at

  -- The exchange that began at this moment is open: since then no answer was heard, and it did not end without one.
  abbrev pub IsOpenSince : ℕ → List Call → Type 0
  IsOpenSince at [] = ⊥
  IsOpenSince at (c ∷ past) = BeginsAt at past c ⊎ ((hears c ≡ None) × (ends_as c ≡ None) × IsOpenSince at past)

  -- A Timeout ends it FAILURE_TIMEOUTS times ACK_TIMEOUT after it began, or later; NoResponse EXCHANGE_LIFETIME after
  -- that (sections 4.2 and 5.2.2).
  pub record EndsInTime (past : List Call) (c : Call) (at : ℕ) : Type 0 where
    pub timeout : ends_as c ≡ Some Timeout → at + failure_timeouts * ack_timeout ≤ moment_of (own_of sizes past) c
    pub no_response : ends_as c ≡ Some NoResponse → at + exchange_lifetime ≤ moment_of (own_of sizes past) c

  abbrev pub AllEndInTime : List Call → Type 0
  AllEndInTime trace = Always (λ past c. (at : ℕ) → IsOpenSince at past → EndsInTime past c at) trace

module _ (server : Endpoint) (sizes : Sizes) (setup : Setup) where
  -- The exchange that runs began at this moment. It has the token of the request that was sent last, and that was sent
  -- for the operation that runs.
  pub record RunsSince (at : ℕ) (t : List Call) : Type 0 where
    pub exchange : Exchange
    pub runs : (X.own_of server setup (lower_of sizes t)).running ≡ Some exchange
    pub begun : Begun
    pub last_begun : A.last_begun server setup (lower_of sizes t) ≡ Some begun
    pub moment : begun.at ≡ at
    pub operation : Operation
    pub operates : (own_of sizes t).running ≡ Some operation
    pub sending : Sending
    pub last_sent : last_sent sizes t ≡ Some sending
    pub sent_for : IsSentFor operation sending
    pub token : exchange.token ≡ sending.token
    -- it is that of a cancel where the request has a token of its own (RFC 7641, section 3.6)
    pub cancel : exchange.cancel ≡ is_some sending.request.token

  -- An exchange is open exactly where one runs.
  pub record OpenRuns (t : List Call) : Type 0 where
    pub runs : (at : ℕ) → IsOpenSince sizes at t → RunsSince at t
    pub is_open : (x : Exchange) → (X.own_of server setup (lower_of sizes t)).running ≡ Some x
        → (at : ℕ) × IsOpenSince sizes at t × RunsSince at t

  -- What is heard answers the exchange that is open, under its token.
  pub record IsOfOpen (past : List Call) (m : Message) : Type 0 where
    pub since : ℕ
    pub is_open : IsOpenSince sizes since past
    pub runs : RunsSince since past
    pub token : m.token ≡ runs.exchange.token

  abbrev pub HearsOfOpen : List Call → Type 0
  HearsOfOpen trace = Always (λ past c. (m : Message) → hears c ≡ Some m → IsOfOpen past m) trace

  -- it comes piggybacked, with the Message ID of the request; or apart, and is no notification that was under way when
  -- the observation was cancelled (RFC 7641, section 3.6)
  abbrev pub ComesAsAnswer : Exchange → Message → Type 0
  ComesAsAnswer x m =
      ((m.kind ≡ Ack) × (m.id ≡ x.id.0))
      ⊎ (((m.kind ≡ Con) ⊎ (m.kind ≡ Non)) × ((x.cancel ≡ false) ⊎ (carries Response observe m.options ≡ false)))

  -- A response from the server is heard that has the token of the exchange that runs, where each critical option of it
  -- is recognised (sections 5.3.2 and 5.4.1).
  abbrev pub AnswersAreHeard : List Call → Type 0
  AnswersAreHeard trace =
      Always (λ past c. (now : ℕ) (from : Endpoint) (bytes : List ℕ) (w : ℕ) (m : Message) (settled : Bool)
      (event : Option Event) (sent : L.Answer) (token : Result (List ℕ) AskRefusal) (kept : Bool) (x : Exchange)
      → c ≡ Feeds now from bytes w (L.Becomes (L.Response m)) settled event sent token kept
      → IsSound server setup from m → (X.own_of server setup (lower_of sizes past)).running ≡ Some x
      → m.token ≡ x.token → ComesAsAnswer x m → hears c ≡ Some m) trace
