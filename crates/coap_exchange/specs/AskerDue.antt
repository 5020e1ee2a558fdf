-- At which tick the exchange of a client ends: at the first at which it is due (RFC 7252, sections 4.2 and 5.2.2).
use Rattle.std.specs.Prelude.{◌≡◌, ◌≤◌, ℕ, ◌-◌, ◌*◌, Option, Some, None, List, [], ◌∷◌, Ok, if◌then◌else◌}
use Rattle.coap_types.specs.Past.{Always}
use Rattle.coap_types.specs.declared.endpoint.Endpoint.{Endpoint}
use Rattle.coap_types.specs.declared.endpoint.Moment.{Moment}
use Rattle.coap_types.specs.declared.transmission.TheConstants.{EXCHANGE_LIFETIME_MS as exchange_lifetime}
use Rattle.coap_types.specs.declared.transmission.TheConstants.{FAILURE_TIMEOUTS as failure_timeouts}
use Rattle.coap_layer.specs.Trace as L
use Rattle.coap_exchange.specs.declared.asker.Event.TheVariants as event
use Rattle.coap_exchange.specs.declared.asker.Turn.{Turn}
use Rattle.coap_exchange.specs.declared.asker.Turn.TheVariants as turn
use Rattle.coap_exchange.specs.declared.asker.Exchange.{Exchange}
use Rattle.coap_exchange.specs.AskerTrace.{Call, Ask, Receive, Ticks}
use Rattle.coap_exchange.specs.AskerArrivals.{is_of_request}
use Rattle.coap_exchange.specs.AskerLaw.{own_of}
use Rattle.coap_exchange.specs.AskerFollows.{Begun, last_begun, moment}
use Rattle.coap_layer.specs.declared.setup.Setup.{Setup}

module _ (server : Endpoint) (setup : Setup) where
  -- when the request that was sent last was acknowledged by an Empty message
  abbrev pub last_acked : List Call → Option Moment
  last_acked [] = None
  last_acked (Ask now r w below (Ok token) ∷ past) = None
  last_acked (Receive now from bytes (L.Becomes (L.Acked id)) settled answer ∷ past) =
      if is_of_request (own_of server setup past) from id then Some (record { 0 = moment server setup past now })
      else last_acked past
  last_acked (c ∷ past) = last_acked past

  -- At the first tick FAILURE_TIMEOUTS initial timeouts after its request was sent, the exchange that runs ends,
  -- where no Empty acknowledgement came (section 4.2)
  pub record FailsWhenDue (past : List Call) (now : ℕ) (answer : Turn) : Type 0 where
    pub begun : Begun
    pub last : last_begun server setup past ≡ Some begun
    pub ends : begun.timeout * failure_timeouts ≤ moment server setup past now - begun.at
        → answer ≡ turn.End event.Timeout

  -- .. and else at the first tick EXCHANGE_LIFETIME after that acknowledgement (section 5.2.2; profile)
  pub record WhenDue (past : List Call) (c : Call) : Type 0 where
    pub unheard :
        (now : ℕ) (below : _) (answer : Turn) (x : Exchange) → c ≡ Ticks now below answer
        → (own_of server setup past).running ≡ Some x → x.acked ≡ None
        → FailsWhenDue past now answer
    pub heard :
        (now : ℕ) (below : _) (answer : Turn) (x : Exchange) (acked : Moment) → c ≡ Ticks now below answer
        → (own_of server setup past).running ≡ Some x → x.acked ≡ Some acked
        → exchange_lifetime ≤ moment server setup past now - acked.0 → answer ≡ turn.End event.NoResponse
    pub acked : (x : Exchange) → (own_of server setup past).running ≡ Some x → x.acked ≡ last_acked past

  abbrev pub EndWhenDue : List Call → Type 0
  EndWhenDue trace = Always WhenDue trace
