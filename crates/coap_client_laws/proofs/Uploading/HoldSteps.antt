-- What an effect makes of a hold: it is as it was, or set where an upload is over without a final response.
use Rattle.std.proofs.Common.{◌≡◌, ◌⊎◌, inl, inr, ℕ, Bool, true, false, cond, not, ◌&&◌, Option, Some, None, List, []}
use Rattle.std.proofs.Common.{◌∷◌, refl, ap, ◌∙◌}
use Rattle.std.specs.Prelude.{◌==◌}
use Rattle.coap_types.specs.declared.block.Block.{Block}
use Rattle.coap_types.specs.declared.option_number.TheConstants.{BLOCK1 as block1}
use Rattle.coap_types.specs.declared.request.Method.{Method}
use Rattle.coap_codec.specs.Message.{Message}
use Rattle.coap_block.specs.declared.fetch_verdict.Verdict.{Verdict}
use Rattle.coap_block.specs.declared.fetch_verdict.Verdict.TheVariants as verdict
use Rattle.coap_block.specs.UploadStep.{UploadState, moved, more_follows, continues}
use Rattle.coap_exchange.specs.declared.asker.Event.{Event}
use Rattle.coap_exchange.specs.declared.asker.Event.TheVariants as event_of
use Rattle.coap_observe.specs.Newer.{is_newer}
use Rattle.coap_client.specs.Trace.{is_value, Request, Report}
use Rattle.coap_client.specs.Trace as R
use Rattle.coap_client.specs.Own.{Transfer, Fetches, Uploads, Single, Operation, Calling, Registering, Fetching}
use Rattle.coap_client.specs.Own.{Notified, Observation, Own}
use Rattle.coap_client.specs.Observations.{observation_with, rest_of}
use Rattle.coap_client.specs.Requests.{is_longer}
use Rattle.coap_client.specs.Responses.{continue, block_at, is_notification, sequence_in}
use Rattle.coap_client.specs.Reports.{lapse}
use Rattle.coap_client.specs.Reports as reports_of
use Rattle.coap_client.specs.Calls.{Next, answer}
use Rattle.coap_client.specs.Calls as calls
use Rattle.coap_client.specs.Effects.{Asks, Effect, stays, runs, ends, of, held_by}
use Rattle.coap_client.specs.Fetching.{fetch_by, fetch_answered}
use Rattle.coap_client.specs.Observing.{is_over, renewed, passed, noticed_by}
use Rattle.coap_client.specs.Events.{called, answered, failed, happened, is_held, is_upload_op, starts, idle}
use Rattle.coap_client.specs.Deeds.{at}
use Rattle.coap_client_laws.specs.Follows.Holds.{is_upload_of}
use Rattle.coap_client.proofs.Facts.Places.PlaceLemmas.{number_self}
use Rattle.coap_client.proofs.Facts.Places.PlaceEvents.{done_last}

-- It is as it was, or it is set where what runs, an upload, is over without a final response.

pub record Sets (final : Bool) (s : Own) (e : Effect) : Type 0 where
  pub number : ℕ
  pub up : is_upload_of number s.running ≡ true
  pub report : Report
  pub made : e.report ≡ of number report
  pub last : is_value report ≡ false
  pub unanswered : final ≡ false
  pub hold : e.own.hold ≡ Some s.sent

abbrev pub Quiet : Effect → Type 0
Quiet e = (op : Operation) → e.deed ≡ Asks op → ⊥

pub record Step (final : Bool) (s : Own) (e : Effect) : Type 0 where
  pub sent : e.own.sent ≡ s.sent
  pub cause : (e.own.hold ≡ s.hold) ⊎ (Sets final s e × Quiet e)

plain : (final : Bool) (s : Own) (e : Effect) → e.own.sent ≡ s.sent → e.own.hold ≡ s.hold → Step final s e
plain final s e sent hold = record { sent = sent; cause = inl hold }

held_step : (final : Bool) (s : Own) (k : ℕ) (r : Request) (t : Transfer) → s.running ≡ Some (Calling k r t)
    → (c : Bool) (report : Report) → is_value report ≡ false → (c ≡ true → final ≡ false)
    → Step final s (ends (of k report) (held_by c t s))
held_step final s k r (Fetches f) is true report last so = plain final s _ refl refl
held_step final s k r Single is true report last so = plain final s _ refl refl
held_step final s k r (Uploads u) is true report last so = by (is_longer u) refl
  where
    by : (b : Bool) → is_longer u ≡ b
        → Step final s (ends (of k report) (cond b (record s { hold = Some s.sent }) s))
    by true longer = record {
      sent = refl;
      cause = inr (
        record {
          number = k;
          up = ap (is_upload_of k) is ∙ (ap (λ x. x && is_longer u) (number_self k) ∙ longer);
          report = report;
          made = refl;
          last = last;
          unanswered = so refl;
          hold = refl;
        },
        λ op h. cc h,
      );
    }
    by false longer = plain final s _ refl refl
held_step final s k r _ is false report last so = plain final s _ refl refl

-- a call ends with a last report, and not finally only by a 2.31
abbrev Fair : Bool → Next → Type 0
Fair continued (calls.Asks t) = Unit {0}
Fair continued (calls.Ends final report) = (is_value report ≡ false) × (final ≡ false → continued ≡ true)

continued_fair : (u : UploadState) (o : Option Block) → Fair true (calls.continued u o)
continued_fair u None = (refl, λ h. refl)
continued_fair u (Some b) = by (continues u b)
  where
    by : (c : Bool) → Fair true (cond c (calls.Asks (Uploads (moved u b))) (calls.Ends false R.BadBlock))
    by true = tt
    by false = (refl, λ h. refl)

sent_fair : (method : Method) (u : UploadState) (m : Message) → Fair (m.code == continue) (calls.sent method u m)
sent_fair method u m = by (m.code == continue) (is_longer u) (more_follows u && calls.is_below_errors m.code)
  where
    by : (b l p : Bool) → Fair b (cond (b && l) (calls.continued u (block_at block1 m))
        (cond p (calls.Ends true R.BadBlock) (calls.Ends true (reports_of.done method m.code))))
    by true true p = continued_fair u (block_at block1 m)
    by true false true = (refl, λ h. refl)
    by true false false = (done_last method m.code, λ h. refl)
    by false l true = (refl, λ h. absurd (cc h))
    by false l false = (done_last method m.code, λ h. absurd (cc h))

called_step : (s : Own) (k : ℕ) (r : Request) (t : Transfer) (continued : Bool) (next : Next)
    → s.running ≡ Some (Calling k r t) → ((u : UploadState) → t ≡ Uploads u → Fair continued next)
    → Step (not continued) s (called k r t s next)
called_step s k r t continued (calls.Asks next) is fair = plain (not continued) s _ refl refl
called_step s k r (Fetches f) continued (calls.Ends true report) is fair = plain (not continued) s _ refl refl
called_step s k r (Fetches f) continued (calls.Ends false report) is fair = plain (not continued) s _ refl refl
called_step s k r Single continued (calls.Ends true report) is fair = plain (not continued) s _ refl refl
called_step s k r Single continued (calls.Ends false report) is fair = plain (not continued) s _ refl refl
called_step s k r (Uploads u) continued (calls.Ends true report) is fair = plain (not continued) s _ refl refl
called_step s k r (Uploads u) continued (calls.Ends false report) is fair =
    let f = fair u refl in
    held_step (not continued) s k r (Uploads u) is true report f.0 (λ h. ap not (f.1 refl))

by_step : (final : Bool) (s : Own) (k : ℕ) (n : Notified) (m : Message) (v : Verdict)
    → Step final s (fetch_by k n s m v)
by_step final s k n m (verdict.Ask num szx) = plain final s _ refl refl
by_step final s k n m _ = plain final s _ refl refl

fetch_step : (final : Bool) (s : Own) (k : ℕ) (o : Option Notified) (m : Message)
    → Step final s (fetch_answered k o s m)
fetch_step final s k None m = plain final s _ refl refl
fetch_step final s k (Some n) m = by_step final s k n m _

if_step : (final : Bool) (s : Own) (b : Bool) (e f : Effect) → Step final s e → Step final s f
    → Step final s (cond b e f)
if_step final s true e f h k = h
if_step final s false e f h k = k

call_fair : (r : Request) (t : Transfer) (m : Message) (u : UploadState) → t ≡ Uploads u
    → Fair (m.code == continue) (answer r t m)
call_fair r (Uploads v) m u is = sent_fair r.method v m
call_fair r _ m u is = absurd (cc is)

answered_step : (s : Own) (at : ℕ) (m : Message) (running : Option Operation) → s.running ≡ running
    → Step (not (m.code == continue)) s (answered s at m running)
answered_step s at m (Some (Calling k r t)) is =
    called_step s k r t (m.code == continue) (answer r t m) is (call_fair r t m)
answered_step s at m (Some (Registering k path)) is =
    if_step (not (m.code == continue)) s (is_notification m) _ _ (plain (not (m.code == continue)) s _ refl refl)
    (plain (not (m.code == continue)) s _ refl refl)
answered_step s at m (Some (Fetching k)) is = fetch_step (not (m.code == continue)) s k (rest_of k s.observations) m
answered_step s at m _ is = plain (not (m.code == continue)) s _ refl refl

pub failed_step : (s : Own) (report : Report) → is_value report ≡ false → (running : Option Operation)
    → s.running ≡ running → Step false s (failed (λ t. true) report s running)
failed_step s report last (Some (Calling k r t)) is = held_step false s k r t is true report last (λ h. refl)
failed_step s report last _ is = plain false s _ refl refl

noticed_step : (s : Own) (at : ℕ) (m : Message) (o : Option Observation) → Step false s (noticed_by o s at m)
noticed_step s at m None = plain false s _ refl refl
noticed_step s at m (Some o) = by (not (is_notification m)) (is_newer o.watch.mark (sequence_in m) at)
  where
    by : (b c : Bool) → Step false s (cond b (is_over o.number (R.Ended m.code) s)
        (cond c (renewed o s at m) (stays (passed o s at m))))
    by true c = plain false s _ refl refl
    by false true = plain false s _ refl refl
    by false false = plain false s _ refl refl

abbrev pub final_in : Option Event → Bool
final_in (Some (event_of.Answer m)) = not (m.code == continue)
final_in e = false

pub happened_step : (s : Own) (at : ℕ) (e : Option Event) → Step (final_in e) s (happened s at e)
happened_step s at None = plain false s _ refl refl
happened_step s at (Some (event_of.Answer m)) = answered_step s at m s.running refl
happened_step s at (Some (event_of.Notice m)) = noticed_step s at m (observation_with m.token s.observations)
happened_step s at (Some event_of.Reset) = failed_step s R.Reset refl s.running refl
happened_step s at (Some event_of.Timeout) = failed_step s R.Timeout refl s.running refl
happened_step s at (Some event_of.NoResponse) = failed_step s R.NoResponse refl s.running refl

starts_step : (s : Own) (at : ℕ) (queue : List Operation) → Step false s (starts s at queue)
starts_step s at [] = plain false s _ refl refl
starts_step s at (op ∷ queue) =
    if_step false s (is_upload_op op && is_held s at) (stays s) (runs op (record s { queue = queue }))
    (plain false s _ refl refl) (plain false s _ refl refl)

pub idle_step : (s : Own) (at : ℕ) (running : Option Operation) (number : Option ℕ)
    → Step false s (idle s at running number)
idle_step s at (Some op) number = plain false s _ refl refl
idle_step s at None (Some k) = plain false s _ refl refl
idle_step s at None None = starts_step s at s.queue

pub lapse_last : (e : Event) → is_value (lapse e) ≡ false
lapse_last (event_of.Answer m) = refl
lapse_last _ = refl
