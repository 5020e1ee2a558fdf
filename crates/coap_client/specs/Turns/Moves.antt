-- The moves of a client: what a datagram or a tick makes of it, case by case (RFC 7252, sections 4.2, 5.2.2 and 5.3.2;
-- RFC 7641, sections 3.2 to 3.4; RFC 7959, sections 2.4 and 2.5).
use Rattle.std.specs.Prelude.{◌≡◌, ℕ, Bool, true, false, not, Option, Some, None, List, [], ◌∷◌, ◌++◌}
use Rattle.coap_codec.specs.Message.{Message}
use Rattle.coap_block.specs.declared.fetch_verdict.Verdict.TheVariants as verdict
use Rattle.coap_exchange.specs.declared.asker.Event.{Event}
use Rattle.coap_exchange.specs.declared.asker.Event.TheVariants as event_of
use Rattle.coap_observe.specs.Newer.{is_newer}
use Rattle.coap_client.specs.Trace.{Request, Report, Ended, Cancelled}
use Rattle.coap_client.specs.Own.{Transfer, Operation, Calling, Registering, Fetching, Cancelling}
use Rattle.coap_client.specs.Own.{Dropped, Notified, Observation, Own}
use Rattle.coap_client.specs.Observations.{observation_with, rest_of, to_fetch}
use Rattle.coap_client.specs.Responses.{content, is_notification, sequence_in, part}
use Rattle.coap_client.specs.Reports.{lapse}
use Rattle.coap_client.specs.Calls.{answer}
use Rattle.coap_client.specs.Calls as calls
use Rattle.coap_client.specs.Effects.{Keeps, Effect, stays, runs, ends, of, held_by}
use Rattle.coap_client.specs.Fetching.{fetch_by, fetch_over}
use Rattle.coap_client.specs.Observing.{begun, first_value, is_over, renewed, passed}
use Rattle.coap_client.specs.Events.{cancel_over, failed}

-- what the exchanges tell is an answer to the request that runs; a notification
abbrev pub Hears : Option Event → Message → Type 0
Hears told m = told ≡ Some (event_of.Answer m)

abbrev pub Notes : Option Event → Message → Type 0
Notes told m = told ≡ Some (event_of.Notice m)

-- no answer to what runs, and no notification of a live observation
pub record Unheard (s : Own) (told : Option Event) : Type 0 where
  pub answer : (m : Message) → Hears told m → s.running ≡ None
  pub notice : (m : Message) → Notes told m → observation_with m.token s.observations ≡ None

-- The cases, where the exchanges tell this, or nothing at a tick.
pub data Move (s : Own) (now : ℕ) (told : Option Event) : Type 0 where
  -- nothing is made of it
  rests : Unheard s told → Move s now told
  -- a request is retransmitted
  copies : told ≡ None → Move s now told
  -- the first of the queue begins
  starts_next : (op : Operation) (queue : List Operation) → s.running ≡ None → to_fetch s.observations ≡ None
      → s.queue ≡ op ∷ queue → told ≡ None → Move s now told
  -- the fetch of a representation begins, of which a notification brought the first block
  fetches : (k : ℕ) → s.running ≡ None → to_fetch s.observations ≡ Some k → told ≡ None → Move s now told
  -- a call is answered, and goes on with a further request; it ends
  goes_on : (k : ℕ) (r : Request) (t next : Transfer) (m : Message) → Hears told m → s.running ≡ Some (Calling k r t)
      → answer r t m ≡ calls.Asks next → Move s now told
  is_done : (k : ℕ) (r : Request) (t : Transfer) (final : Bool) (report : Report) (m : Message) → Hears told m
      → s.running ≡ Some (Calling k r t) → answer r t m ≡ calls.Ends final report → Move s now told
  -- a registration is answered: the observation begins; it does not
  registers : (k : ℕ) (path : List (List ℕ)) (m : Message) → Hears told m → s.running ≡ Some (Registering k path)
      → is_notification m ≡ true → Move s now told
  refuses : (k : ℕ) (path : List (List ℕ)) (m : Message) → Hears told m → s.running ≡ Some (Registering k path)
      → is_notification m ≡ false → Move s now told
  -- a fetch is answered: it asks for the next block; it is whole; it is given up; it is no longer wanted
  fetches_on : (k : ℕ) (n : Notified) (m : Message) (num szx : ℕ) → Hears told m → s.running ≡ Some (Fetching k)
      → rest_of k s.observations ≡ Some n → m.code ≡ content → part n.fetch m ≡ verdict.Ask num szx → Move s now told
  fetched : (k : ℕ) (n : Notified) (m : Message) → Hears told m → s.running ≡ Some (Fetching k)
      → rest_of k s.observations ≡ Some n → m.code ≡ content → part n.fetch m ≡ verdict.Done → Move s now told
  gives_up : (k : ℕ) (m : Message) → Hears told m → s.running ≡ Some (Fetching k) → Move s now told
  fetched_none : (k : ℕ) (m : Message) → Hears told m → s.running ≡ Some (Fetching k) → Move s now told
  -- the cancel of an observation is answered; a fetch that no longer counts
  cancels : (k : ℕ) (m : Message) → Hears told m → s.running ≡ Some (Cancelling k) → Move s now told
  is_dropped : (m : Message) → Hears told m → s.running ≡ Some Dropped → Move s now told
  -- the exchange fails
  fails : (e : Event) → Unheard s told → Move s now told
  -- a notification ends its observation; it is newer; it is not
  is_ended : (o : Observation) (m : Message) → Notes told m → observation_with m.token s.observations ≡ Some o
      → is_notification m ≡ false → Move s now told
  renews : (o : Observation) (m : Message) → Notes told m → observation_with m.token s.observations ≡ Some o
      → is_notification m ≡ true → is_newer o.watch.mark (sequence_in m) now ≡ true → Move s now told
  passes_by : (o : Observation) (m : Message) → Notes told m → observation_with m.token s.observations ≡ Some o
      → is_notification m ≡ true → is_newer o.watch.mark (sequence_in m) now ≡ false → Move s now told

-- what each leaves
abbrev pub left_by : (s : Own) (now : ℕ) (told : Option Event) → Move s now told → Effect
left_by s now told (rests un) = stays s
left_by s now told (copies quiet_so) = stays (record s { sent = now })
left_by s now told (starts_next op queue none rest first quiet_so) = runs op (record s { queue = queue })
left_by s now told (fetches k none rest quiet_so) = runs (Fetching k) s
left_by s now told (goes_on k r t next m hears is asks) = runs (Calling k r next) s
left_by s now told (is_done k r t final report m hears is ends_it) = ends (of k report) (held_by (not final) t s)
left_by s now told (registers k path m hears is note) = record {
  own = record s { running = None; observations = s.observations ++ begun k path s.sizes now m ∷ [] };
  report = first_value k s.sizes m;
  deed = Keeps m.token;
}
left_by s now told (refuses k path m hears is note) = ends (of k (Ended m.code)) s
left_by s now told (fetches_on k n m num szx hears is rest code asks) = fetch_by k n s m (verdict.Ask num szx)
left_by s now told (fetched k n m hears is rest code done) = fetch_by k n s m verdict.Done
left_by s now told (gives_up k m hears is) = fetch_over k None s
left_by s now told (fetched_none k m hears is) = ends None s
left_by s now told (cancels k m hears is) = cancel_over k Cancelled s
left_by s now told (is_dropped m hears is) = ends None s
left_by s now told (fails e un) = failed (λ t. true) (lapse e) s s.running
left_by s now told (is_ended o m notes found note) = is_over o.number (Ended m.code) s
left_by s now told (renews o m notes found note newer) = renewed o s now m
left_by s now told (passes_by o m notes found note newer) = stays (passed o s now m)

-- one of them leaves this
abbrev pub Moved : (s : Own) (now : ℕ) (told : Option Event) → Effect → Type 0
Moved s now told e = (mv : Move s now told) × (e ≡ left_by s now told mv)
