-- Why a call has no report yet after a tick that did nothing (RFC 7252, sections 4.2, 4.7 and 5.2.2).
use Rattle.std.specs.Prelude.{◌≡◌, ◌≤◌, ◌<◌, ◌⊎◌, ℕ, ◌+◌, ◌-◌, ◌*◌, true, false, Option, Some, None, List, [], ◌∷◌}
use Rattle.coap_types.specs.Past.{Sometime, Always}
use Rattle.coap_types.specs.declared.endpoint.Endpoint.{Endpoint}
use Rattle.coap_types.specs.declared.endpoint.Moment.{Moment}
use Rattle.coap_types.specs.declared.transmission.TheConstants.{EXCHANGE_LIFETIME_MS as exchange_lifetime}
use Rattle.coap_types.specs.declared.transmission.TheConstants.{FAILURE_TIMEOUTS as failure_timeouts}
use Rattle.coap_types.specs.declared.transmission.TheConstants.{MAX_LATENCY_MS as max_latency}
use Rattle.coap_layer.specs.declared.setup.Setup.{Setup}
use Rattle.coap_block.specs.Sizes.{Sizes}
use Rattle.coap_exchange.specs.declared.asker.Exchange.{Exchange}
use Rattle.coap_exchange.specs.AskerFollows.{Begun}
use Rattle.coap_exchange.specs.AskerFollows as A
use Rattle.coap_exchange.specs.AskerLaw as X
use Rattle.coap_client.specs.Trace.{is_value, Reported, Call, Ticks}
use Rattle.coap_client.specs.Own.{Operation, Calling, Registering, Fetching, Cancelling, Dropped, Own}
use Rattle.coap_client.specs.Events.{is_held, is_upload_op}
use Rattle.coap_client.specs.Steps.{reports}
use Rattle.coap_client.specs.Law.{own_of, lower_of}
use Rattle.coap_client_laws.specs.Follows.Holds.{moment, SendsOf, EndsUnanswered}
use Rattle.coap_client.specs.Sendings.{Taken, WasTaken, Sending, sends, last_sent}

-- The request was sent for the operation that runs; or it is a fetch for an observation, where what runs is a fetch
-- that no longer counts: it was replaced or forgotten, or its observation is over, and its exchange goes on to its end.
abbrev pub IsSentFor : Operation → Sending → Type 0
IsSentFor (Calling number r t) x = x.operation ≡ Calling number r t
IsSentFor (Registering number path) x = x.operation ≡ Registering number path
IsSentFor (Fetching number) x = x.operation ≡ Fetching number
IsSentFor (Cancelling number) x = x.operation ≡ Cancelling number
IsSentFor Dropped x = (number : ℕ) × (x.operation ≡ Fetching number)

module _ (server : Endpoint) (sizes : Sizes) (setup : Setup) where
  -- A call has at most one report that is final.
  pub record IsFinal (past : List Call) (c : Call) (x : Reported) : Type 0 where
    pub made : reports (own_of sizes past) c ≡ Some x
    pub final : is_value x.report ≡ false

  abbrev pub HasReport : ℕ → List Call → Type 0
  HasReport number t = Sometime (λ past c. (x : Reported) × (x.number ≡ number) × IsFinal past c x) t

  abbrev pub ReportedOnce : List Call → Type 0
  ReportedOnce trace = Always (λ past c. (x : Reported) → reports (own_of sizes past) c ≡ Some x
      → HasReport x.number past
      → ⊥) trace

  -- What runs is the first of the operations that are not over, or a fetch for an observation. The request that was
  -- sent last was sent for it; the exchange that is open has the token of this request, and is not due: it is
  -- FAILURE_TIMEOUTS initial timeouts after the request without an acknowledgement, or EXCHANGE_LIFETIME after that.
  pub record IsNotDue (t : List Call) (at : ℕ) : Type 0 where
    pub operation : Operation
    pub runs : (own_of sizes t).running ≡ Some operation
    pub sending : Sending
    pub last : last_sent sizes t ≡ Some sending
    pub sent_for : IsSentFor operation sending
    pub exchange : Exchange
    pub token : exchange.token ≡ sending.token
    pub running : (X.own_of server setup (lower_of sizes t)).running ≡ Some exchange
    pub not_due :
        ((exchange.acked ≡ None) × ((begun : Begun) × (A.last_begun server setup (lower_of sizes t) ≡ Some begun)
        × (at - begun.at < begun.timeout * failure_timeouts)))
        ⊎ ((acked : Moment) × (exchange.acked ≡ Some acked) × (at - acked.0 < exchange_lifetime))

  -- The first of what waits is an upload that is held back: the client holds it, and another upload ended without a
  -- final response, of which a datagram was sent at most MAX_LATENCY before.
  pub record IsHeld (t : List Call) : Type 0 where
    pub operation : Operation
    pub queue : List Operation
    pub first : (own_of sizes t).queue ≡ operation ∷ queue
    pub none : (own_of sizes t).running ≡ None
    pub upload : is_upload_op operation ≡ true
    pub held : is_held (own_of sizes t) (own_of sizes t).clock ≡ true
    pub other : ℕ
    pub ended : Sometime (EndsUnanswered sizes other) t
    pub sent : Sometime (λ earlier b. SendsOf sizes other earlier b
        × ((own_of sizes t).clock ≤ moment (own_of sizes earlier) b + max_latency)) t

  abbrev pub WaitsFor : List Call → Call → Type 0
  WaitsFor past c = IsNotDue (c ∷ past) (own_of sizes (c ∷ past)).clock ⊎ IsHeld (c ∷ past)

  abbrev pub IsIdleTick : Call → Type 0
  IsIdleTick c = (now w : ℕ) × (below : _) × (turn : _) × (sent : _) × (token : _) × (kept : _)
      × (c ≡ Ticks now w below turn sent token kept false)

  -- .. or nothing waits, and nothing runs
  pub record IsEmpty (s : Own) : Type 0 where
    pub queue : s.queue ≡ []
    pub none : s.running ≡ None

  abbrev pub AreResting : List Call → Type 0
  AreResting trace = Always (λ past c. IsIdleTick c → WaitsFor past c ⊎ IsEmpty (own_of sizes (c ∷ past))) trace

  abbrev pub AreAnswered : List Call → Type 0
  AreAnswered trace = Always (λ past c. IsIdleTick c → (x : Taken) → WasTaken x past → (HasReport x.number past → ⊥)
      → WaitsFor past c) trace

-- the number of the call, or of the observation, that an operation is of
abbrev pub of_call : Operation → Option ℕ
of_call (Calling number r t) = Some number
of_call (Registering number path) = Some number
of_call (Fetching number) = Some number
of_call (Cancelling number) = Some number
of_call Dropped = None

module _ (server : Endpoint) (sizes : Sizes) (setup : Setup) where
  -- Nothing is sent for a number behind its last report.
  abbrev pub NoneAfter : List Call → Type 0
  NoneAfter trace = Always (λ past c. (x : Sending) (number : ℕ) → sends (own_of sizes past) c ≡ Some x
      → of_call x.operation ≡ Some number → HasReport server sizes setup number past → ⊥) trace
