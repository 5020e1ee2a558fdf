-- What each event and each turn leaves of the numbers that a client keeps.
use Rattle.std.proofs.Common.{◌≡◌, ◌≤◌, ℕ, ◌+◌, Bool, true, false, cond, not, ◌&&◌, Option, Some, None, List, [], ◌∷◌}
use Rattle.std.proofs.Common.{◌++◌, refl, ap, sym, subst, ◌∙◌, arith, is_some}
use Rattle.std.specs.Prelude.{◌==◌}
use Rattle.coap_codec.specs.Message.{Message}
use Rattle.coap_block.specs.FetchStep as F
use Rattle.coap_observe.specs.Newer.{arrived, is_newer}
use Rattle.coap_exchange.specs.declared.asker.Event.{Event}
use Rattle.coap_exchange.specs.declared.asker.Event.TheVariants as event
use Rattle.coap_exchange.specs.declared.asker.Turn.{Turn}
use Rattle.coap_exchange.specs.declared.asker.Turn.TheVariants as turn
use Rattle.coap_exchange.specs.declared.asker.Exchange.{Exchange}
use Rattle.coap_exchange.specs.AskerArrivals.{has_token, running_unless}
use Rattle.coap_exchange.specs.Tokens.{same_token}
use Rattle.coap_exchange.proofs.Facts.SameToken.{same_token_self}
use Rattle.coap_block.specs.UploadStep.{continues, UploadState, moved, more_follows}
use Rattle.coap_client.specs.Trace.{is_value, Request, Report, Ended, Cancelled}
use Rattle.coap_client.specs.Own.{Transfer, Operation, Calling, Registering, Fetching, Cancelling, Dropped}
use Rattle.coap_client.specs.Own.{Observation, Own, Fetches, Uploads, Single}
use Rattle.coap_client.specs.Observations.{observation_with, token_of, rest_of, to_fetch, dropped}
use Rattle.coap_client.specs.Responses.{content, is_notification, sequence_in, part, continue, block_at}
use Rattle.coap_client.specs.Reports.{lapse}
use Rattle.coap_client.specs.Reports as reports_of
use Rattle.coap_types.specs.declared.block.Block.{Block}
use Rattle.coap_block.specs.declared.fetch_step.FetchRefusal.{FetchRefusal}
use Rattle.coap_block.specs.declared.fetch_step.FetchRefusal.TheVariants as refusal
use Rattle.coap_block.specs.declared.fetch_verdict.Verdict.{Verdict}
use Rattle.coap_block.specs.declared.fetch_verdict.Verdict.TheVariants as verdict
use Rattle.coap_block.specs.FetchStep.{FetchState}
use Rattle.coap_types.specs.declared.request.Method.{Method}
use Rattle.coap_types.specs.declared.option_number.TheConstants.{BLOCK1 as block1}
use Rattle.coap_client.specs.Requests.{is_longer}
use Rattle.coap_client.specs.Trace as R
use Rattle.coap_client.specs.Responses as T
use Rattle.std.specs.Option.{option_map}
use Rattle.coap_client.specs.Calls.{Next, answer}
use Rattle.coap_client.specs.Calls as calls
use Rattle.coap_client.specs.Effects.{Keeps, stays, runs, ends, of, is_upload}
use Rattle.coap_client.specs.Observing.{first_value, first_rest, is_over, begun, registered, renewed, passed}
use Rattle.coap_client.specs.Observing.{noticed_by, noticed}
use Rattle.coap_client.specs.Events.{called, answered, failed, happened, is_held, is_upload_op, starts, idle, passes}
use Rattle.coap_client.specs.Places.{hit, in_running, in_queue, in_observations, places}
use Rattle.coap_client.proofs.Facts.Places.PlaceLemmas.{same_number, hit_self, in_observations_append, in_map}
use Rattle.coap_client.proofs.Facts.Places.PlaceLemmas.{in_dropped}
use Rattle.coap_client.proofs.Facts.Places.PlaceLemmas.{found_by_token, number_of_found, number_if, token_if}
use Rattle.coap_client.proofs.Facts.Turning.ExchangeCame.{Came}
use Rattle.coap_client.proofs.Facts.Places.PlaceEffects.{Waits, AllWait, RunsOn, Sound, Linked, Goes, NoCancel}
use Rattle.coap_client.proofs.Facts.Places.PlaceEffects.{stays_goes}
use Rattle.coap_client.proofs.Facts.Places.PlaceEffects.{ends_goes, ends_quietly, held_goes, again_goes, value_quiet}
use Rattle.coap_client.proofs.Facts.Places.PlaceEffects.{value_of_number, wait_map, wait_append, runs_map, runs_dropped}
use Rattle.coap_client.proofs.Facts.Places.PlaceEffects.{linked_map, linked_dropped, linked_same}
use Rattle.coap_client.proofs.Places.ObservationPlaces.{over_goes, cancel_goes, fetch_over_goes, fetch_goes}

-- no call's report is a value

abbrev pub LastOnly : Next → Type 0
LastOnly (calls.Asks t) = Unit {0}
LastOnly (calls.Ends final report) = is_value report ≡ false

last_if : (b : Bool) (x y : Next) → LastOnly x → LastOnly y → LastOnly (cond b x y)
last_if true x y h k = h
last_if false x y h k = k

refused_last : (why : FetchRefusal) → is_value (reports_of.refused why) ≡ false
refused_last refusal.Changed = refl
refused_last _ = refl

pub done_last : (method : Method) (code : ℕ) → is_value (reports_of.done method code) ≡ false
done_last method code = by (reports_of.is_success method code)
  where
    by : (b : Bool) → is_value (cond b (R.Done code) (R.Failed code)) ≡ false
    by true = refl
    by false = refl

pub lapse_last : (e : Event) → is_value (lapse e) ≡ false
lapse_last (event.Answer m) = refl
lapse_last _ = refl

fetched_last : (f : FetchState) (m : Message) (v : Verdict) → LastOnly (calls.fetched f m v)
fetched_last f m (verdict.Refuse why) = refused_last why
fetched_last f m verdict.Done = refl
fetched_last f m _ = tt

continued_last : (u : UploadState) (b : Option Block) → LastOnly (calls.continued u b)
continued_last u None = refl
continued_last u (Some b) = last_if (continues u b) (calls.Asks (Uploads (moved u b)))
    (calls.Ends false R.BadBlock) tt refl

pub answer_last : (r : Request) (t : Transfer) (m : Message) → LastOnly (answer r t m)
answer_last r (Fetches f) m =
    last_if (m.code == content) (calls.fetched f m (part f m))
    (cond ((m.code == T.valid) && calls.has_tags r.etags) (calls.Ends true (R.Valid (T.tag_in m)))
    (calls.Ends true (R.Failed m.code))) (fetched_last f m (part f m))
    (last_if ((m.code == T.valid) && calls.has_tags r.etags) (calls.Ends true (R.Valid (T.tag_in m)))
    (calls.Ends true (R.Failed m.code)) refl refl)
answer_last r (Uploads u) m =
    last_if ((m.code == continue) && is_longer u) (calls.continued u (block_at block1 m))
    (cond (more_follows u && calls.is_below_errors m.code) (calls.Ends true R.BadBlock)
    (calls.Ends true (reports_of.done r.method m.code))) (continued_last u (block_at block1 m))
    (last_if (more_follows u && calls.is_below_errors m.code) (calls.Ends true R.BadBlock)
    (calls.Ends true (reports_of.done r.method m.code)) refl (done_last r.method m.code))
answer_last r Single m = done_last r.method m.code

-- an answer

called_goes : (s : Own) (x : Option Exchange) → Sound s → x ≡ None → (k : ℕ) (r : Request) (t : Transfer)
    → s.running ≡ Some (Calling k r t) → (next : Next) → LastOnly next → Goes s x (called k r t s next)
called_goes s x sound none k r t is (calls.Asks next) last =
    again_goes s x sound none (Calling k r t) (Calling k r next) is (λ n. refl) tt
called_goes s x sound none k r t is (calls.Ends final report) last =
    held_goes s x (not final && is_upload t) (Some s.sent) sound none (Calling k r t) is k report (λ n. refl) last

registered_goes : (s : Own) (x : Option Exchange) → Sound s → x ≡ None → (k : ℕ) (path : List (List ℕ))
    → s.running ≡ Some (Registering k path) → (at : ℕ) (m : Message) → Goes s x (registered k path s at m)
registered_goes s x sound none k path is at m = by (is_notification m)
  where
    by : (b : Bool)
        → Goes s x (cond b (record {
          own = record s { running = None; observations = s.observations ++ begun k path s.sizes at m ∷ [] };
          report = first_value k s.sizes m;
          deed = Keeps m.token;
        }) (ends (of k (Ended m.code)) s))
    by true = record {
      conserved = λ n.
          let a = value_quiet n k (sequence_in m) (F.start s.sizes 0) m (part (F.start s.sizes 0) m) in
          let b = in_observations_append n s.observations (begun k path s.sizes at m ∷ []) in
          let c = ap (in_running n) is in
          omega (arith, a, b, c);
      waits = wait_append s.observations (begun k path s.sizes at m ∷ []) s.queue sound.waits;
      runs_on = tt;
      taken_is = refl;
      source = λ r h.
          let e = value_of_number k (sequence_in m) (F.start s.sizes 0) m (part (F.start s.sizes 0) m) r h in
          let c = ap (in_running k) is in
          let d = hit_self k in
          subst (λ n. 1 ≤ places n s) (sym e) (omega (arith, c, d));
      asks = λ op h. absurd (cc h);
      leaves = none;
    }
    by false = ends_goes s x sound none (Registering k path) is k (Ended m.code) (λ n. refl) refl

linked_none : (s : Own) (x : Option Exchange) → s.running ≡ None → x ≡ None → Linked s.running s.observations x
linked_none s x is none = subst (λ r. Linked r s.observations x) (sym is) none

pub answered_goes : (s : Own) (x : Option Exchange) → Sound s → x ≡ None
    → (at : ℕ) (m : Message) (running : Option Operation) → s.running ≡ running → Goes s x (answered s at m running)
answered_goes s x sound none at m None is = stays_goes s x sound (linked_none s x is none)
answered_goes s x sound none at m (Some (Calling k r t)) is =
    called_goes s x sound none k r t is (answer r t m) (answer_last r t m)
answered_goes s x sound none at m (Some (Registering k path)) is = registered_goes s x sound none k path is at m
answered_goes s x sound none at m (Some (Fetching k)) is = fetch_goes s x sound none k is (rest_of k s.observations) m
answered_goes s x sound none at m (Some (Cancelling k)) is = cancel_goes s x sound none k is Cancelled refl
answered_goes s x sound none at m (Some Dropped) is = ends_quietly s x sound none Dropped is (λ n. refl)

-- a failure
pub failed_goes : (s : Own) (x : Option Exchange) → Sound s → x ≡ None → (u : Transfer → Bool) (report : Report)
    → is_value report ≡ false → (running : Option Operation) → s.running ≡ running
    → Goes s x (failed u report s running)
failed_goes s x sound none u report last None is = stays_goes s x sound (linked_none s x is none)
failed_goes s x sound none u report last (Some (Calling k r t)) is =
    held_goes s x (u t && is_upload t) (Some s.sent) sound none (Calling k r t) is k report (λ n. refl) last
failed_goes s x sound none u report last (Some (Registering k path)) is =
    ends_goes s x sound none (Registering k path) is k report (λ n. refl) last
failed_goes s x sound none u report last (Some (Fetching k)) is =
    fetch_over_goes s x sound none k is None (λ n. refl) (λ r h. absurd (cc h))
failed_goes s x sound none u report last (Some (Cancelling k)) is = cancel_goes s x sound none k is report last
failed_goes s x sound none u report last (Some Dropped) is = ends_quietly s x sound none Dropped is (λ n. refl)

-- a notification
module _ (s : Own) (x : Option Exchange) (sound : Sound s) (l : Linked s.running s.observations x) (at : ℕ)
    (m : Message) (aside : has_token x m.token ≡ false) where
  -- no cancel of its observation runs: that has its token
  pub apart_of : (o : Observation) → observation_with m.token s.observations ≡ Some o → NoCancel o.number s.running
  apart_of o found j is = by (j == o.number) refl
    where
      by : (b : Bool) → (j == o.number) ≡ b → b ≡ false
      by false e = refl
      by true e =
          let k : Linked (Some (Cancelling j)) s.observations x = subst (λ r. Linked r s.observations x) is l in
          let most : in_observations o.number s.observations ≤ 1 =
          (let a = sound.at_most o.number in omega (arith, a)) in
          let there = number_of_found m.token s.observations o found most in
          let mine : token_of o.number s.observations
          ≡ Some o.token = ap (option_map (λ (y : Observation). y.token)) there in
          let its : token_of o.number s.observations
          ≡ Some k.0.token = subst (λ i. token_of i s.observations ≡ Some k.0.token)
          (same_number j o.number e) k.2 in
          let same : k.0.token ≡ o.token = cc (mine, its) in
          let token : m.token ≡ k.0.token = (found_by_token m.token s.observations o found).0 ∙ sym same in
          let has : has_token x m.token ≡ true = ap (λ y. has_token y m.token) k.1
          ∙ (ap (λ t. same_token t k.0.token) token ∙ same_token_self k.0.token) in
          absurd (cc (aside, has))

  module _ (o : Observation) (found : observation_with m.token s.observations ≡ Some o) where
    abbrev renewing : Observation → Observation
    renewing p = cond (p.number == o.number) (record p
        { watch = arrived p.watch (sequence_in m) at true; rest = first_rest s.sizes m }) p

    renewing_number : (p : Observation) → (renewing p).number ≡ p.number
    renewing_number p = number_if (p.number == o.number) p
        (record p { watch = arrived p.watch (sequence_in m) at true; rest = first_rest s.sizes m }) refl

    renewing_token : (p : Observation) → (renewing p).token ≡ p.token
    renewing_token p = token_if (p.number == o.number) p
        (record p { watch = arrived p.watch (sequence_in m) at true; rest = first_rest s.sizes m }) refl

    renewed_goes : Goes s x (renewed o s at m)
    renewed_goes = record {
      conserved = λ n.
          let a = value_quiet n o.number (sequence_in m) (F.start s.sizes 0) m (part (F.start s.sizes 0) m) in
          let b = in_map n renewing renewing_number s.observations in
          let c = in_dropped n o.number s.running in
          omega (arith, a, b, c);
      waits = wait_map renewing renewing_number s.observations s.queue sound.waits;
      runs_on = runs_map renewing renewing_number s.observations (dropped o.number s.running)
          (runs_dropped o.number s.observations s.running sound.runs_on);
      taken_is = refl;
      source = λ r h.
          let e = value_of_number o.number (sequence_in m) (F.start s.sizes 0) m (part (F.start s.sizes 0) m) r h in
          let there = (found_by_token m.token s.observations o found).1 in
          subst (λ n. 1 ≤ places n s) (sym e) (omega (arith, there));
      asks = λ op h. absurd (cc h);
      leaves = linked_map renewing renewing_number renewing_token s.observations (dropped o.number s.running) x
          (linked_dropped o.number s.observations s.running x l);
    }

    abbrev passing : Observation → Observation
    passing p = cond (p.number == o.number) (record p { watch = arrived p.watch (sequence_in m) at false }) p

    passing_number : (p : Observation) → (passing p).number ≡ p.number
    passing_number p = number_if (p.number == o.number) p
        (record p { watch = arrived p.watch (sequence_in m) at false }) refl

    passing_token : (p : Observation) → (passing p).token ≡ p.token
    passing_token p = token_if (p.number == o.number) p
        (record p { watch = arrived p.watch (sequence_in m) at false }) refl

    passed_goes : Goes s x (stays (passed o s at m))
    passed_goes = record {
      conserved = λ n. let b = in_map n passing passing_number s.observations in omega (arith, b);
      waits = wait_map passing passing_number s.observations s.queue sound.waits;
      runs_on = runs_map passing passing_number s.observations s.running sound.runs_on;
      taken_is = refl;
      source = λ r h. absurd (cc h);
      asks = λ op h. absurd (cc h);
      leaves = linked_map passing passing_number passing_token s.observations s.running x l;
    }

    noticed_some : Goes s x (noticed_by (Some o) s at m)
    noticed_some = by (not (is_notification m)) (is_newer o.watch.mark (sequence_in m) at)
      where
        by : (b c : Bool) → Goes s x (cond b (is_over o.number (Ended m.code) s)
            (cond c (renewed o s at m) (stays (passed o s at m))))
        by true c = over_goes s x sound l o.number (Ended m.code) (found_by_token m.token s.observations o found).1
            (apart_of o found) refl
        by false true = renewed_goes
        by false false = passed_goes

  noticed_goes : (o : Option Observation) → observation_with m.token s.observations ≡ o → Goes s x (noticed_by o s at m)
  noticed_goes None found = stays_goes s x sound l
  noticed_goes (Some o) found = noticed_some o found

-- an event
pub happened_goes : (s : Own) (before now : Option Exchange) → Sound s → Linked s.running s.observations before
    → (at : ℕ) (e : Option Event) → Came before now e → Goes s now (happened s at e)
happened_goes s before now sound l at None came =
    stays_goes s now sound (linked_same s.observations s.running before now came l)
happened_goes s before now sound l at (Some (event.Answer m)) came =
    answered_goes s now sound came.3 at m s.running refl
happened_goes s before now sound l at (Some (event.Notice m)) came =
    subst (λ x. Goes s x (noticed s at m)) (sym came.1)
    (noticed_goes s before sound l at m came.0 (observation_with m.token s.observations) refl)
happened_goes s before now sound l at (Some event.Reset) came =
    failed_goes s now sound came.2 (λ t. true) _ refl s.running refl
happened_goes s before now sound l at _ came = absurd came

-- a turn

to_fetch_there : (os : List Observation) (k : ℕ) → to_fetch os ≡ Some k → 1 ≤ in_observations k os
to_fetch_there [] k h = absurd (cc h)
to_fetch_there (o ∷ os) k h = by (to_fetch_there os k) (is_some o.rest) h
  where
    by : (to_fetch os ≡ Some k → 1 ≤ in_observations k os) → (b : Bool) → cond b (Some o.number) (to_fetch os) ≡ Some k
        → 1 ≤ hit o.number k + in_observations k os
    by f true e = let same : o.number ≡ k = cc e in let z = ap (λ n. hit n k) same ∙ hit_self k in omega (arith, z)
    by f false e = let ih = f e in omega (arith, ih)

waits_runs : (os : List Observation) (op : Operation) → Waits os op → RunsOn os op
waits_runs os (Fetching k) h = absurd h
waits_runs os (Cancelling k) h = h
waits_runs os Dropped h = absurd h
waits_runs os _ h = tt

module _ (s : Own) (x : Option Exchange) (sound : Sound s) (none : x ≡ None) (idle_is : s.running ≡ None) (at : ℕ) where
  starts_goes : (queue : List Operation) → s.queue ≡ queue → Goes s x (starts s at queue)
  starts_goes [] is = stays_goes s x sound (linked_none s x idle_is none)
  starts_goes (op ∷ queue) is = by (is_upload_op op && is_held s at)
    where
      by : (b : Bool) → Goes s x (cond b (stays s) (runs op (record s { queue = queue })))
      by true = stays_goes s x sound (linked_none s x idle_is none)
      by false =
          let w : AllWait s.observations (op ∷ queue) = subst (AllWait s.observations) is sound.waits in
          record {
            conserved = λ n. let a = ap (in_queue n) is in let c = ap (in_running n) idle_is in omega (arith, a, c);
            waits = w.1;
            runs_on = waits_runs s.observations op w.0;
            taken_is = refl;
            source = λ r h. absurd (cc h);
            asks = λ o h. (refl, (let e : op ≡ o = cc h in ap (λ y. Some y) e));
            leaves = none;
          }

  fetch_starts : (k : ℕ) → to_fetch s.observations ≡ Some k → Goes s x (runs (Fetching k) s)
  fetch_starts k is = record {
    conserved = λ n. let c = ap (in_running n) idle_is in omega (arith, c);
    waits = sound.waits;
    runs_on = to_fetch_there s.observations k is;
    taken_is = refl;
    source = λ r h. absurd (cc h);
    asks = λ o h. (refl, (let e : Fetching k ≡ o = cc h in ap (λ y. Some y) e));
    leaves = none;
  }

  idle_goes : (number : Option ℕ) → to_fetch s.observations ≡ number → Goes s x (idle s at None number)
  idle_goes None is = starts_goes s.queue refl
  idle_goes (Some k) is = fetch_starts k is

turn_idle : (s : Own) (x : Option Exchange) → Sound s → Linked s.running s.observations x
    → (at : ℕ) (running : Option Operation) → s.running ≡ running
    → Goes s x (idle s at running (to_fetch s.observations))
turn_idle s x sound l at None is = idle_goes s x sound (subst (λ r. Linked r s.observations x) is l) is at
    (to_fetch s.observations) refl
turn_idle s x sound l at (Some op) is = idle_stays (to_fetch s.observations)
  where
    idle_stays : (number : Option ℕ) → Goes s x (idle s at (Some op) number)
    idle_stays number = stays_goes s x sound l

pub passes_goes : (s : Own) (before : Option Exchange) → Sound s → Linked s.running s.observations before
    → (at : ℕ) (t : Turn) → Goes s (running_unless t before) (passes s at t)
passes_goes s before sound l at turn.Idle = turn_idle s before sound l at s.running refl
passes_goes s before sound l at turn.Copied =
    let g = stays_goes s before sound l in
    record {
      conserved = g.conserved;
      waits = g.waits;
      runs_on = g.runs_on;
      taken_is = g.taken_is;
      source = g.source;
      asks = g.asks;
      leaves = g.leaves;
    }
passes_goes s before sound l at (turn.End e) =
    failed_goes s None sound refl (λ t. true) (lapse e) (lapse_last e) s.running refl
