-- What a datagram or time makes of a client is one of its moves.
use Rattle.std.proofs.Common.{◌≡◌, ℕ, Bool, true, false, cond, not, ◌&&◌, Option, Some, None, List, ◌∷◌, ◌++◌, [], refl}
use Rattle.std.proofs.Common.{ap, sym, ◌∙◌}
use Rattle.std.specs.Prelude.{◌==◌}
use Rattle.coap_codec.specs.Message.{Message}
use Rattle.coap_block.specs.declared.fetch_verdict.Verdict.{Verdict}
use Rattle.coap_block.specs.declared.fetch_verdict.Verdict.TheVariants as verdict
use Rattle.coap_block.specs.declared.fetch_step.FetchRefusal.TheVariants as refusal
use Rattle.coap_exchange.specs.declared.asker.Event.{Event}
use Rattle.coap_exchange.specs.declared.asker.Event.TheVariants as event_of
use Rattle.coap_exchange.specs.declared.asker.Turn.{Turn}
use Rattle.coap_exchange.specs.declared.asker.Turn.TheVariants as turn_of
use Rattle.coap_observe.specs.Newer.{is_newer}
use Rattle.coap_client.specs.Trace.{Request, Ended}
use Rattle.coap_client.specs.Own.{Transfer, Operation, Calling, Registering, Fetching, Cancelling, Dropped, Notified}
use Rattle.coap_client.specs.Own.{Observation, Own}
use Rattle.coap_client.specs.Observations.{observation_with, rest_of, to_fetch}
use Rattle.coap_client.specs.Responses.{content, is_notification, sequence_in, part}
use Rattle.coap_client.specs.Calls.{Next, answer}
use Rattle.coap_client.specs.Calls as calls
use Rattle.coap_client.specs.Effects.{Asks, Keeps, stays, runs, ends, of}
use Rattle.coap_client.specs.Fetching.{fetch_by, fetch_answered}
use Rattle.coap_client.specs.Observing.{begun, first_value, is_over, releases, registered, renewed, passed, noticed_by}
use Rattle.coap_client.specs.Events.{called, answered, happened, is_held, is_upload_op, starts, idle, passes}
use Rattle.coap_client.specs.Turns.Moves.{Hears, Notes, Unheard, Moved, rests, copies, starts_next, fetches, goes_on}
use Rattle.coap_client.specs.Turns.Moves.{is_done, registers, refuses, fetches_on, fetched, gives_up, fetched_none}
use Rattle.coap_client.specs.Turns.Moves.{cancels, is_dropped, fails, is_ended, renews, passes_by}
use Rattle.coap_client.proofs.Facts.Places.PlaceLemmas.{same_number}

-- a release asks for no request
pub releases_none : (o : Option Observation) (op : Operation) → releases o ≡ Asks op → ⊥
releases_none None op h = cc h
releases_none (Some o) op h = cc h

untold : (s : Own) (told : Option Event) → ((m : Message) → Hears told m → ⊥) → ((m : Message) → Notes told m → ⊥)
    → Unheard s told
untold s told a n = record { answer = λ m h. absurd (a m h); notice = λ m h. absurd (n m h) }

module _ (s : Own) (now : ℕ) (m : Message) where
  abbrev told : Option Event
  told = Some (event_of.Answer m)

  call_moves : (k : ℕ) (r : Request) (t : Transfer) → s.running ≡ Some (Calling k r t) → (n : Next) → answer r t m ≡ n
      → Moved s now told (called k r t s n)
  call_moves k r t is (calls.Asks next) h = (goes_on k r t next m refl is h, refl)
  call_moves k r t is (calls.Ends final report) h = (is_done k r t final report m refl is h, refl)

  registration_moves : (k : ℕ) (path : List (List ℕ)) → s.running ≡ Some (Registering k path)
      → Moved s now told (registered k path s now m)
  registration_moves k path is = by (is_notification m) refl
    where
      by : (b : Bool) → is_notification m ≡ b
          → Moved s now told (cond b (record {
            own =
                record s { running = None; observations = s.observations ++ begun k path s.sizes now m ∷ [] };
            report = first_value k s.sizes m;
            deed = Keeps m.token;
          }) (ends (of k (Ended m.code)) s))
      by true h = (registers k path m refl is h, refl)
      by false h = (refuses k path m refl is h, refl)

  part_moves : (k : ℕ) (n : Notified) → s.running ≡ Some (Fetching k) → rest_of k s.observations ≡ Some n
      → m.code ≡ content → (v : Verdict) → part n.fetch m ≡ v → Moved s now told (fetch_by k n s m v)
  part_moves k n is rest code (verdict.Ask num szx) h = (fetches_on k n m num szx refl is rest code h, refl)
  part_moves k n is rest code verdict.Done h = (fetched k n m refl is rest code h, refl)
  part_moves k n is rest code _ h = (gives_up k m refl is, refl)

  fetch_moves : (k : ℕ) → s.running ≡ Some (Fetching k) → (o : Option Notified) → rest_of k s.observations ≡ o
      → Moved s now told (fetch_answered k o s m)
  fetch_moves k is None rest = (fetched_none k m refl is, refl)
  fetch_moves k is (Some n) rest = by (m.code == content) refl
    where
      by : (b : Bool) → (m.code == content) ≡ b → Moved s now told
          (fetch_by k n s m (cond b (part n.fetch m) (verdict.Refuse refusal.BadBlock)))
      by true h = part_moves k n is rest (same_number m.code content h) (part n.fetch m) refl
      by false h = (gives_up k m refl is, refl)

  answer_moves : (running : Option Operation) → s.running ≡ running → Moved s now told (answered s now m running)
  answer_moves None is = (rests (record { answer = λ a h. is; notice = λ a h. absurd (cc h) }), refl)
  answer_moves (Some (Calling k r t)) is = call_moves k r t is (answer r t m) refl
  answer_moves (Some (Registering k path)) is = registration_moves k path is
  answer_moves (Some (Fetching k)) is = fetch_moves k is (rest_of k s.observations) refl
  answer_moves (Some (Cancelling k)) is = (cancels k m refl is, refl)
  answer_moves (Some Dropped) is = (is_dropped m refl is, refl)

  notice_moves : (o : Option Observation) → observation_with m.token s.observations ≡ o
      → Moved s now (Some (event_of.Notice m)) (noticed_by o s now m)
  notice_moves None found = (
    rests (record {
      answer = λ a h. absurd (cc h);
      notice = λ a h. (let e : m ≡ a = (let z : ◌≡◌ {A = Option Event} (Some (event_of.Notice m))
          (Some (event_of.Notice a)) = h in cc z) in ap (λ (x : Message). observation_with x.token s.observations)
          (sym e)
          ∙ found);
    }),
    refl,
  )
  notice_moves (Some o) found = by (is_notification m) refl (is_newer o.watch.mark (sequence_in m) now) refl
    where
      by : (b : Bool) → is_notification m ≡ b → (c : Bool) → is_newer o.watch.mark (sequence_in m) now ≡ c
          → Moved s now (Some (event_of.Notice m)) (cond (not b) (is_over o.number (Ended m.code) s)
          (cond c (renewed o s now m) (stays (passed o s now m))))
      by false h c k = (is_ended o m refl found h, refl)
      by true h true k = (renews o m refl found h k, refl)
      by true h false k = (passes_by o m refl found h k, refl)

pub happened_moves : (s : Own) (now : ℕ) (e : Option Event) → Moved s now e (happened s now e)
happened_moves s now None = (rests (untold s None (λ m h. cc h) (λ m h. cc h)), refl)
happened_moves s now (Some (event_of.Answer m)) = answer_moves s now m s.running refl
happened_moves s now (Some (event_of.Notice m)) = notice_moves s now m (observation_with m.token s.observations) refl
happened_moves s now (Some event_of.Reset) = (
  fails event_of.Reset
      (untold s (Some event_of.Reset) (λ m h. cc h) (λ m h. cc h)),
  refl,
)
happened_moves s now (Some event_of.Timeout) =
    (fails event_of.Timeout (untold s (Some event_of.Timeout) (λ m h. cc h) (λ m h. cc h)), refl)
happened_moves s now (Some event_of.NoResponse) =
    (fails event_of.NoResponse (untold s (Some event_of.NoResponse) (λ m h. cc h) (λ m h. cc h)), refl)

module _ (s : Own) (now : ℕ) where
  queue_moves : s.running ≡ None → to_fetch s.observations ≡ None → (queue : List Operation) → s.queue ≡ queue
      → Moved s now None (starts s now queue)
  queue_moves none rest [] is = (rests (untold s None (λ m h. cc h) (λ m h. cc h)), refl)
  queue_moves none rest (op ∷ queue) is = by (is_upload_op op && is_held s now)
    where
      by : (b : Bool) → Moved s now None (cond b (stays s) (runs op (record s { queue = queue })))
      by true = (rests (untold s None (λ m h. cc h) (λ m h. cc h)), refl)
      by false = (starts_next op queue none rest is refl, refl)

  idle_moves : (running : Option Operation) → s.running ≡ running → (k : Option ℕ) → to_fetch s.observations ≡ k
      → Moved s now None (idle s now running k)
  idle_moves (Some op) is k rest = (rests (untold s None (λ m h. cc h) (λ m h. cc h)), refl)
  idle_moves None is (Some k) rest = (fetches k is rest refl, refl)
  idle_moves None is None rest = queue_moves is rest s.queue refl

  pub passes_moves : (t : Turn) → Moved s now None (passes s now t)
  passes_moves turn_of.Idle = idle_moves s.running refl (to_fetch s.observations) refl
  passes_moves turn_of.Copied = (copies refl, refl)
  passes_moves (turn_of.End e) = (fails e (untold s None (λ m h. cc h) (λ m h. cc h)), refl)
