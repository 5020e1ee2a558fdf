-- What each effect leaves of what waits.
use Rattle.std.proofs.Common.{◌≡◌, ℕ, Bool, true, false, cond, not, ◌&&◌, ◌==◌, Option, Some, None, List, [], ◌∷◌, ◌++◌}
use Rattle.std.proofs.Common.{refl, ap, sym, subst, ◌∙◌, Result}
use Rattle.std.specs.Prelude.{filter}
use Rattle.coap_codec.specs.Message.{Message}
use Rattle.coap_block.specs.declared.fetch_step.FetchRefusal.TheVariants as refusal
use Rattle.coap_block.specs.declared.fetch_verdict.Verdict.{Verdict}
use Rattle.coap_block.specs.declared.fetch_verdict.Verdict.TheVariants as verdict
use Rattle.coap_observe.specs.Newer.{is_newer}
use Rattle.coap_exchange.specs.declared.asker.AskRefusal.{AskRefusal}
use Rattle.coap_exchange.specs.declared.asker.Event.{Event}
use Rattle.coap_exchange.specs.declared.asker.Event.TheVariants as event_of
use Rattle.coap_client.specs.Trace.{is_value, Request, Report, Ended, Cancelled, NoIds}
use Rattle.coap_client.specs.Own.{Transfer, Operation, Calling, Registering, Fetching, Cancelling, Dropped, Notified}
use Rattle.coap_client.specs.Own.{Observation, Own}
use Rattle.coap_client.specs.Observations.{observation_with, rest_of, is_cancel_of}
use Rattle.coap_client.specs.Responses.{content, part, is_notification, sequence_in}
use Rattle.coap_client.specs.Reports.{lapse}
use Rattle.coap_client.specs.Calls.{answer}
use Rattle.coap_client.specs.Calls as calls
use Rattle.coap_client.specs.Effects.{Asks, Keeps, Effect, stays, ends, of, is_upload, has_sent}
use Rattle.coap_client.specs.Fetching.{fetch_by, fetch_answered}
use Rattle.coap_client.specs.Observing.{begun, first_value, is_over, renewed, passed, noticed_by}
use Rattle.coap_client.specs.Events.{called, answered, failed, happened, closed}
use Rattle.coap_client_laws.proofs.Queueing.Closing.{Closing, quiet, goes_out, is_refused}
use Rattle.coap_client.proofs.Facts.Places.PlaceEvents.{lapse_last}

abbrev pub uncancelled : ℕ → List Operation → List Operation
uncancelled k ops = filter (λ op. not (is_cancel_of k op)) ops

-- these wait still; or a number is over, with its last report, and its cancel waits no more
pub data Queued (q : List Operation) (e : Effect) : Type 0 where
  same : e.own.queue ≡ q → Queued q e
  over : (k : ℕ) (r : Report) → is_value r ≡ false → e.report ≡ of k r → e.own.queue ≡ uncancelled k q → Queued q e

queued_if : (q : List Operation) (b : Bool) (x y : Effect) → Queued q x → Queued q y → Queued q (cond b x y)
queued_if q true x y h k = h
queued_if q false x y h k = k

held_queue : (b : Bool) (s : Own) → (cond b (record s { hold = Some s.sent }) s).queue ≡ s.queue
held_queue true s = refl
held_queue false s = refl

called_queued : (k : ℕ) (r : Request) (t : Transfer) (s : Own) (n : calls.Next) → Queued s.queue (called k r t s n)
called_queued k r t s (calls.Asks next) = same refl
called_queued k r t s (calls.Ends final report) = same (held_queue (not final && is_upload t) s)

fetch_queued : (k : ℕ) (n : Notified) (s : Own) (m : Message) (v : Verdict) → Queued s.queue (fetch_by k n s m v)
fetch_queued k n s m (verdict.Refuse why) = same refl
fetch_queued k n s m _ = same refl

fetched_queued : (k : ℕ) (o : Option Notified) (s : Own) (m : Message) → Queued s.queue (fetch_answered k o s m)
fetched_queued k None s m = same refl
fetched_queued k (Some n) s m = fetch_queued k n s m
    (cond (m.code == content) (part n.fetch m) (verdict.Refuse refusal.BadBlock))

answered_queued : (s : Own) (now : ℕ) (m : Message) (running : Option Operation)
    → Queued s.queue (answered s now m running)
answered_queued s now m (Some (Calling k r t)) = called_queued k r t s (answer r t m)
answered_queued s now m (Some (Registering k path)) =
    queued_if s.queue (is_notification m)
    (record {
      own = record s { running = None; observations = s.observations ++ begun k path s.sizes now m ∷ [] };
      report = first_value k s.sizes m;
      deed = Keeps m.token;
    })
    (ends (of k (Ended m.code)) s) (same refl) (same refl)
answered_queued s now m (Some (Fetching k)) = fetched_queued k (rest_of k s.observations) s m
answered_queued s now m (Some (Cancelling k)) = over k Cancelled refl refl refl
answered_queued s now m _ = same refl

noticed_queued : (o : Option Observation) (s : Own) (now : ℕ) (m : Message) → Queued s.queue (noticed_by o s now m)
noticed_queued None s now m = same refl
noticed_queued (Some o) s now m =
    queued_if s.queue (not (is_notification m)) (is_over o.number (Ended m.code) s)
    (cond (is_newer o.watch.mark (sequence_in m) now) (renewed o s now m) (stays (passed o s now m)))
    (over o.number (Ended m.code) refl refl refl)
    (queued_if s.queue (is_newer o.watch.mark (sequence_in m) now) (renewed o s now m) (stays (passed o s now m))
    (same refl) (same refl))

pub failed_queued : (u : Transfer → Bool) (report : Report) (s : Own) (running : Option Operation)
    → is_value report ≡ false → Queued s.queue (failed u report s running)
failed_queued u report s (Some (Calling k r t)) h = same (held_queue (u t && is_upload t) s)
failed_queued u report s (Some (Cancelling k)) h = over k report h refl refl
failed_queued u report s _ h = same refl

pub happened_queued : (s : Own) (now : ℕ) (e : Option Event) → Queued s.queue (happened s now e)
happened_queued s now None = same refl
happened_queued s now (Some (event_of.Answer m)) = answered_queued s now m s.running
happened_queued s now (Some (event_of.Notice m)) = noticed_queued (observation_with m.token s.observations) s now m
happened_queued s now (Some event_of.Reset) =
    failed_queued (λ t. true) (lapse event_of.Reset) s s.running (lapse_last event_of.Reset)
happened_queued s now (Some event_of.Timeout) =
    failed_queued (λ t. true) (lapse event_of.Timeout) s s.running (lapse_last event_of.Timeout)
happened_queued s now (Some event_of.NoResponse) =
    failed_queued (λ t. true) (lapse event_of.NoResponse) s s.running (lapse_last event_of.NoResponse)

-- behind that, the sending of the next request

moved : (q p : List Operation) (e : Effect) → q ≡ p → Queued q e → Queued p e
moved q p e is h = subst (λ z. Queued z e) is h

same_of : (q : List Operation) (e : Effect) → e.report ≡ None → Queued q e → e.own.queue ≡ q
same_of q e none (same h) = h
same_of q e none (over k r last made h) = let z : of k r ≡ None = sym made ∙ none in absurd (cc z)

pub closed_queued : (now : ℕ) (q : List Operation) (e : Effect) (token : Result (List ℕ) AskRefusal)
    → Closing now e token → ((op : Operation) → e.deed ≡ Asks op → e.report ≡ None) → Queued q e
    → Queued q (closed now e e.deed token)
closed_queued now q e token (quiet none nothing own_same report_same) asks (same h) =
    same (ap (λ (o : Own). o.queue) own_same ∙ h)
closed_queued now q e token (quiet none nothing own_same report_same) asks (over k r last made h) =
    over k r last (report_same ∙ made) (ap (λ (o : Own). o.queue) own_same ∙ h)
closed_queued now q e token (goes_out op key asked given sends_it own_same report_same) asks h =
    same (ap (λ (o : Own). o.queue) own_same ∙ same_of q e (asks op asked) h)
closed_queued now q e token (is_refused op why asked given none all) asks h =
    subst (Queued q) (sym all) (moved e.own.queue q (failed has_sent NoIds e.own (Some op))
    (same_of q e (asks op asked) h) (failed_queued has_sent NoIds e.own (Some op) refl))
