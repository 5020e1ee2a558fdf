-- How an exchange ends without a response, and why a request is not sent.
use Rattle.std.proofs.Common.{◌≡◌, ◌⊎◌, inl, inr, ℕ, Bool, true, false, cond, ◌&&◌, Option, Some, None, List, refl, sym}
use Rattle.std.proofs.Common.{Result, Err}
use Rattle.coap_types.specs.SameEndpoint.{same_endpoint}
use Rattle.coap_types.specs.declared.endpoint.Endpoint.{Endpoint}
use Rattle.coap_layer.specs.Trace as L
use Rattle.coap_layer.specs.Words.{sent_by}
use Rattle.coap_exchange.specs.declared.asker.AskRefusal.{AskRefusal}
use Rattle.coap_exchange.specs.declared.asker.AskRefusal.TheVariants as refusal
use Rattle.coap_exchange.specs.declared.asker.Event.{Event}
use Rattle.coap_exchange.specs.declared.asker.Event.TheVariants as event_of
use Rattle.coap_exchange.specs.declared.asker.Exchange.{Exchange}
use Rattle.coap_exchange.specs.declared.asker.Turn.TheVariants as turn_is
use Rattle.coap_exchange.specs.declared.matching.Opening.{Opening}
use Rattle.coap_exchange.specs.declared.matching.Opening.TheVariants.{Running, Spent, Sends}
use Rattle.coap_exchange.specs.AskerTrace as E
use Rattle.coap_exchange.specs.AskerArrivals.{turn_of, is_of_request, has_waited, acked_in}
use Rattle.coap_exchange.specs.AskerRequests.{ask_answer, sent_answer, send_refusal, is_busied, is_yes}
use Rattle.coap_client.specs.Trace.{Report, Timeout, Reset, NoResponse, NoIds}
use Rattle.coap_client.specs.Own.{Operation, Cancelling, Observation, Own}
use Rattle.coap_client.specs.Observations.{observation_of}
use Rattle.coap_client.specs.Observing.{releases}
use Rattle.coap_client.specs.Effects.{Effect}
use Rattle.coap_client.specs.Events.{failed, closed}
use Rattle.coap_client.specs.Deeds.{close}
use Rattle.coap_client_laws.specs.Follows.Ends.{is_end, report_to, IsWant}
use Rattle.coap_client_laws.proofs.Reporting.EffectReports.{is_lapse, reported_in}

-- what fails is reported, whatever is asked then

pub released : (now : ℕ) (e : Effect) (o : Option Observation) (token : Result (List ℕ) AskRefusal)
    → (closed now e (releases o) token).report ≡ e.report
released now e None token = refl
released now e (Some o) token = refl

pub failed_closed : (now : ℕ) (report : Report) (s : Own) (running : Option Operation)
    (token : Result (List ℕ) AskRefusal)
    → (close now (failed (λ t. true) report s running) token).report ≡ report_to report (reported_in running)
failed_closed now report s (Some (Cancelling k)) token =
    released now (failed (λ t. true) report s (Some (Cancelling k))) (observation_of k s.observations) token
failed_closed now report s _ token = refl

-- time ends an exchange by a Timeout or by NoResponse

abbrev pub ByTime : Event → Type 0
ByTime e = (e ≡ event_of.Timeout) ⊎ (e ≡ event_of.NoResponse)

pub record EndedBy (s : E.Own) (e : Event) : Type 0 where
  pub exchange : Exchange
  pub runs : s.running ≡ Some exchange
  pub by_time : ByTime e

expired_by : (s : E.Own) (to : Endpoint) (id : ℕ) (e : Event) (o : Option Exchange) → s.running ≡ o
    → turn_is.End e ≡ turn_of (record s { running = o }) 0 (L.Expired to id) → EndedBy s e
expired_by s to id e None is h = absurd (by (same_endpoint to s.server) h)
  where
    by : (b : Bool) → turn_is.End e ≡ cond (b && false) (turn_is.End event_of.Timeout) turn_is.Idle → ⊥
    by true h = cc h
    by false h = cc h
expired_by s to id e (Some x) is h = by (is_of_request (record s { running = Some x }) to id) h
  where
    by : (b : Bool) → turn_is.End e ≡ cond b (turn_is.End event_of.Timeout) turn_is.Idle → EndedBy s e
    by true h = record { exchange = x; runs = is; by_time = inl (cc h) }
    by false h = absurd (cc h)

waited_by : (s : E.Own) (now : ℕ) (e : Event) (o : Option Exchange) → s.running ≡ o
    → turn_is.End e ≡ cond (has_waited now (acked_in o)) (turn_is.End event_of.NoResponse) turn_is.Idle → EndedBy s e
waited_by s now e None is h = absurd (cc h)
waited_by s now e (Some x) is h = by (has_waited now (acked_in (Some x))) h
  where
    by : (b : Bool) → turn_is.End e ≡ cond b (turn_is.End event_of.NoResponse) turn_is.Idle → EndedBy s e
    by true h = record { exchange = x; runs = is; by_time = inr (cc h) }
    by false h = absurd (cc h)

pub ended_by : (s : E.Own) (now : ℕ) (below : L.Answer) (e : Event) → turn_is.End e ≡ turn_of s now below → EndedBy s e
ended_by s now (L.Expired to id) e h = expired_by s to id e s.running refl h
ended_by s now L.Idle e h = waited_by s now e s.running refl h
ended_by s now _ e h = absurd (cc h)

pub end_lapse : (r : Report) → is_end r ≡ true → is_lapse r ≡ true
end_lapse Timeout h = refl
end_lapse Reset h = refl
end_lapse NoResponse h = refl
end_lapse NoIds h = refl
end_lapse _ h = h

-- why a request can't be sent: one runs, or a Message ID or a token is wanting

spent_is : (b : Bool) (why : AskRefusal) → ◌≡◌ {A = Result (List ℕ) AskRefusal}
    (Err (cond b refusal.TokensSpent refusal.NoIds)) (Err why) → IsWant why
spent_is true why h = let same : refusal.TokensSpent ≡ why = cc h in inr (sym same)
spent_is false why h = let same : refusal.NoIds ≡ why = cc h in inl (sym same)

send_is : (b : Bool) (why : AskRefusal) → ◌≡◌ {A = Result (List ℕ) AskRefusal}
    (Err (cond b refusal.Running refusal.NoIds)) (Err why) → (why ≡ refusal.Running) ⊎ IsWant why
send_is true why h = let same : refusal.Running ≡ why = cc h in inl (sym same)
send_is false why h = let same : refusal.NoIds ≡ why = cc h in inr (inl (sym same))

sent_is : (o : Option ℕ) (below : L.Answer) (token : List ℕ) (why : AskRefusal)
    → sent_answer o (send_refusal below) token ≡ Err why → (why ≡ refusal.Running) ⊎ IsWant why
sent_is None below token why h = send_is (is_busied below) why h
sent_is (Some id) below token why h = absurd (cc h)

pub want_or_runs : (o : Opening) (below : L.Answer) (token : List ℕ) (why : AskRefusal)
    → ask_answer o below token ≡ Err why → (why ≡ refusal.Running) ⊎ IsWant why
want_or_runs Running below token why h = let same : refusal.Running ≡ why = cc h in inl (sym same)
want_or_runs Spent below token why h = inr (spent_is (is_yes below) why h)
want_or_runs Sends below token why h = sent_is (sent_by below) below token why h
