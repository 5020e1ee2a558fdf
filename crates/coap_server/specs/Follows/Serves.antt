-- Which requests a server hands up and serves (RFC 7252, sections 4.5 and 5.2).
use Rattle.std.specs.Prelude.{◌≡◌, ◌<◌, ℕ, ◌+◌, Option, Some, None, List, [], ◌∷◌}
use Rattle.coap_types.specs.Past.{Always}
use Rattle.coap_types.specs.declared.endpoint.Endpoint.{Endpoint}
use Rattle.coap_codec.specs.Message.{Message}
use Rattle.coap_resource.specs.Content.{Content}
use Rattle.coap_resource.specs.Serves.{Question, Reply}
use Rattle.coap_resource.specs.Limits.{Limits}
use Rattle.coap_exchange.specs.declared.answerer.Asked.{Asked}
use Rattle.coap_exchange.specs.declared.answerer.Due.TheVariants as due
use Rattle.coap_exchange.specs.AnswererFollows.{hits, same_asked}
use Rattle.coap_exchange.specs.AnswererSteps.{asked_in}
use Rattle.coap_server.specs.Trace.{Own, Serves, Call, Feeds, Refuses, Ticks, Forgets}
use Rattle.coap_server.specs.Observers.{registers, sequence_if}
use Rattle.coap_server.specs.Handling.{incoming, ticking, heard}
use Rattle.coap_server.specs.Law.{own_of}

-- the request that a call hands up
abbrev pub hands : Call → Option Asked
hands (Feeds now from bytes word up came h below) = asked_in came
hands (Refuses now from bytes word code up p response below) = Some p.0
hands _ = None

-- .. and of these the one that it refuses
abbrev pub refuses : Call → Option (Asked × Message)
refuses (Refuses now from bytes word code up p response below) = Some p
refuses _ = None

-- the peer that a call forgets
abbrev pub forgets : Call → Option Endpoint
forgets (Forgets peer) = Some peer
forgets _ = None

-- a request that the store serves: of which request, what is asked and answered, what the store held and what it is
-- left, and the number that Observe says in the response
pub record Serving : Type 0 where
  pub asked : Asked
  pub question : Question
  pub reply : Reply
  pub old : Content
  pub left : Content
  pub sequence : Option ℕ

abbrev pub serving_of : Own → Asked → Question → Reply → Content → Serving
serving_of s a q reply left = record {
  asked = a;
  question = q;
  reply = reply;
  old = s.store;
  left = left;
  sequence = sequence_if (registers a q reply s.observers) (s.store.holds q.path);
}

abbrev pub serving : Own → Call → Option Serving
serving s (Feeds now from bytes word up (Some p) (Serves q reply left) below) =
    Some (serving_of (heard s now (incoming s now from bytes up (Some p))) p.0 q reply left)
serving s (Ticks now word below room (due.Ready a) passed (Serves q reply left) id answer) =
    Some (serving_of (heard s now (ticking s now below room (due.Ready a))) a q reply left)
serving s _ = None

abbrev pub asked_of : Option Serving → Option Asked
asked_of None = None
asked_of (Some x) = Some x.asked

module _ (limits : Limits) (szx : ℕ) where
  -- how often a request of one endpoint, type, Message ID and token is handed up, and served
  abbrev pub times_handed : Asked → List Call → ℕ
  times_handed a [] = 0
  times_handed a (c ∷ past) = hits (same_asked a) (hands c) + times_handed a past

  abbrev pub times_served : Asked → List Call → ℕ
  times_served a [] = 0
  times_served a (c ∷ past) = hits (same_asked a) (asked_of (serving (own_of limits szx past) c)) + times_served a past

  -- Each request that is handed up is served at most once, at once or later.
  abbrev pub ServedOnce : List Call → Type 0
  ServedOnce trace = Always (λ past c. (x : Serving) → serving (own_of limits szx past) c ≡ Some x
      → times_served x.asked past < times_handed x.asked (c ∷ past)) trace
