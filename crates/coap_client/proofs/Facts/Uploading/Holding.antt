-- How long an upload holds back others.
use Rattle.std.proofs.Common.{◌≡◌, ◌⊎◌, inl, inr, ℕ, Bool, true, false, cond, not, ◌&&◌, Option, Some, None, List, []}
use Rattle.std.proofs.Common.{◌∷◌, refl, ap, ◌∙◌, Result, Ok, Err}
use Rattle.coap_codec.specs.Message.{Message}
use Rattle.coap_block.specs.declared.fetch_verdict.Verdict.{Verdict}
use Rattle.coap_block.specs.declared.fetch_verdict.Verdict.TheVariants as verdict
use Rattle.coap_exchange.specs.declared.asker.AskRefusal.{AskRefusal}
use Rattle.coap_exchange.specs.declared.asker.Event.{Event}
use Rattle.coap_exchange.specs.declared.asker.Event.TheVariants as event
use Rattle.coap_exchange.specs.declared.asker.Turn.{Turn}
use Rattle.coap_exchange.specs.declared.asker.Turn.TheVariants as turn
use Rattle.coap_observe.specs.Newer.{is_newer}
use Rattle.coap_client.specs.Trace.{Request, Report, Reported}
use Rattle.coap_client.specs.Trace as R
use Rattle.coap_client.specs.Own.{Transfer, Operation, Calling, Registering, Fetching, Notified, Observation}
use Rattle.coap_client.specs.Own.{Own}
use Rattle.coap_client.specs.Observations.{observation_with, rest_of, to_fetch}
use Rattle.coap_client.specs.Responses.{is_notification, sequence_in}
use Rattle.coap_client.specs.Reports.{lapse}
use Rattle.coap_client.specs.Calls.{Next, answer}
use Rattle.coap_client.specs.Calls as calls
use Rattle.coap_client.specs.Effects.{Deed, Rests, Asks, Effect, stays, runs, ends, of, is_upload}
use Rattle.coap_client.specs.Effects.{has_sent}
use Rattle.coap_client.specs.Fetching.{fetch_by, fetch_answered}
use Rattle.coap_client.specs.Observing.{is_over, renewed, passed, noticed_by}
use Rattle.coap_client.specs.Events.{called, answered, failed, happened, is_held, is_upload_op, starts, idle, passes}
use Rattle.coap_client.specs.Events.{closed}

-- what becomes of the two moments

pub record Steady (s : Own) (at : ℕ) (e : Effect) : Type 0 where
  pub hold : (e.own.hold ≡ s.hold) ⊎ (e.own.hold ≡ Some s.sent)
  pub sent : (e.own.sent ≡ s.sent) ⊎ ((e.own.sent ≡ at) × ((op : Operation) → e.deed ≡ Asks op → ⊥))
  pub clock : e.own.clock ≡ s.clock
  pub reports : e.own.reports ≡ s.reports

steady : (s : Own) (at : ℕ) (e : Effect) → e.own.hold ≡ s.hold → e.own.sent ≡ s.sent → e.own.clock ≡ s.clock
    → e.own.reports ≡ s.reports → Steady s at e
steady s at e hold sent clock reports = record { hold = inl hold; sent = inl sent; clock = clock; reports = reports }

held_steady : (s : Own) (at : ℕ) (c : Bool) (report : Option Reported)
    → Steady s at (ends report (cond c (record s { hold = Some s.sent }) s))
held_steady s at true report = record { hold = inr refl; sent = inl refl; clock = refl; reports = refl }
held_steady s at false report = steady s at _ refl refl refl refl

called_steady : (s : Own) (at k : ℕ) (r : Request) (t : Transfer) (next : Next) → Steady s at (called k r t s next)
called_steady s at k r t (calls.Asks next) = steady s at _ refl refl refl refl
called_steady s at k r t (calls.Ends final report) = held_steady s at (not final && is_upload t) (of k report)

if_steady : (s : Own) (at : ℕ) (b : Bool) (e f : Effect) → Steady s at e → Steady s at f → Steady s at (cond b e f)
if_steady s at true e f h k = h
if_steady s at false e f h k = k

by_steady : (s : Own) (at k : ℕ) (n : Notified) (m : Message) (v : Verdict) → Steady s at (fetch_by k n s m v)
by_steady s at k n m (verdict.Ask num szx) = steady s at _ refl refl refl refl
by_steady s at k n m _ = steady s at _ refl refl refl refl

fetch_steady : (s : Own) (at k : ℕ) (o : Option Notified) (m : Message) → Steady s at (fetch_answered k o s m)
fetch_steady s at k None m = steady s at _ refl refl refl refl
fetch_steady s at k (Some n) m = by_steady s at k n m _

answered_steady : (s : Own) (at : ℕ) (m : Message) (running : Option Operation) → Steady s at (answered s at m running)
answered_steady s at m (Some (Calling k r t)) = called_steady s at k r t (answer r t m)
answered_steady s at m (Some (Registering k path)) =
    if_steady s at (is_notification m) _ _ (steady s at _ refl refl refl refl) (steady s at _ refl refl refl refl)
answered_steady s at m (Some (Fetching k)) = fetch_steady s at k (rest_of k s.observations) m
answered_steady s at m _ = steady s at _ refl refl refl refl

failed_steady : (s : Own) (at : ℕ) (u : Transfer → Bool) (report : Report) (running : Option Operation)
    → Steady s at (failed u report s running)
failed_steady s at u report (Some (Calling k r t)) = held_steady s at (u t && is_upload t) (of k report)
failed_steady s at u report _ = steady s at _ refl refl refl refl

noticed_steady : (s : Own) (at : ℕ) (m : Message) (o : Option Observation) → Steady s at (noticed_by o s at m)
noticed_steady s at m None = steady s at _ refl refl refl refl
noticed_steady s at m (Some o) = by (not (is_notification m)) (is_newer o.watch.mark (sequence_in m) at)
  where
    by : (b c : Bool) → Steady s at (cond b (is_over o.number (R.Ended m.code) s)
        (cond c (renewed o s at m) (stays (passed o s at m))))
    by true c = steady s at _ refl refl refl refl
    by false true = steady s at _ refl refl refl refl
    by false false = steady s at _ refl refl refl refl

pub happened_steady : (s : Own) (at : ℕ) (e : Option Event) → Steady s at (happened s at e)
happened_steady s at None = steady s at _ refl refl refl refl
happened_steady s at (Some (event.Answer m)) = answered_steady s at m s.running
happened_steady s at (Some (event.Notice m)) = noticed_steady s at m (observation_with m.token s.observations)
happened_steady s at _ = failed_steady s at (λ t. true) _ s.running

starts_steady : (s : Own) (at : ℕ) (queue : List Operation) → Steady s at (starts s at queue)
starts_steady s at [] = steady s at _ refl refl refl refl
starts_steady s at (op ∷ queue) = by (is_upload_op op && is_held s at)
  where
    by : (b : Bool) → Steady s at (cond b (stays s) (runs op (record s { queue = queue })))
    by true = steady s at _ refl refl refl refl
    by false = steady s at _ refl refl refl refl

idle_steady : (s : Own) (at : ℕ) (running : Option Operation) (number : Option ℕ)
    → Steady s at (idle s at running number)
idle_steady s at (Some op) number = steady s at _ refl refl refl refl
idle_steady s at None (Some k) = steady s at _ refl refl refl refl
idle_steady s at None None = starts_steady s at s.queue

pub passes_steady : (s : Own) (at : ℕ) (t : Turn) → Steady s at (passes s at t)
passes_steady s at turn.Idle = idle_steady s at s.running (to_fetch s.observations)
passes_steady s at turn.Copied = record {
  hold = inl refl;
  sent = inr (refl, λ op h. cc h);
  clock = refl;
  reports = refl;
}
passes_steady s at (turn.End e) = failed_steady s at (λ t. true) (lapse e) s.running

-- .. once the request is sent or refused
pub record Steadied (s : Own) (at : ℕ) (c : Effect) : Type 0 where
  pub hold : (c.own.hold ≡ s.hold) ⊎ (c.own.hold ≡ Some s.sent)
  pub sent : (c.own.sent ≡ s.sent) ⊎ (c.own.sent ≡ at)
  pub clock : c.own.clock ≡ s.clock
  pub reports : c.own.reports ≡ s.reports

pub steadied : (s : Own) (at : ℕ) (e : Effect) (token : Result (List ℕ) AskRefusal) (d : Deed) → e.deed ≡ d
    → Steady s at e → Steadied s at (closed at e d token)
steadied s at e token Rests is h = record {
  hold = h.hold;
  sent = elim h.sent [ inl x ↦ inl x | inr x ↦ inr x.0 ];
  clock = h.clock;
  reports = h.reports;
}
steadied s at e (Ok token) (Asks op) is h = record
    { hold = h.hold; sent = inr refl; clock = h.clock; reports = h.reports }
steadied s at e (Err why) (Asks op) is h =
    let f = failed_steady e.own at has_sent R.NoIds (Some op) in
    let same : e.own.sent ≡ s.sent = elim h.sent [ inl x ↦ x | inr x ↦ absurd (x.1 op is) ] in
    record {
      hold = elim f.hold [
        | inl x ↦ elim h.hold [ inl y ↦ inl (x ∙ y) | inr y ↦ inr (x ∙ y) ]
        | inr x ↦ inr
            (x ∙ ap (λ z. Some z) same)
      ];
      sent = elim f.sent [ inl x ↦ inl (x ∙ same) | inr x ↦ inr x.0 ];
      clock = f.clock ∙ h.clock;
      reports = f.reports ∙ h.reports;
    }
steadied s at e token _ is h = record {
  hold = h.hold;
  sent = elim h.sent [ inl x ↦ inl x | inr x ↦ inr x.0 ];
  clock
      = h.clock;
  reports = h.reports;
}
