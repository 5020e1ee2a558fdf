-- A call and an observation are taken, and refused, by what waits; and what waits starts in its order.
use Rattle.std.proofs.Common.{not, ◌||◌, ◌≡◌, ◌≤◌, ℕ, ◌+◌, max, Bool, true, false, cond, ◌&&◌, ◌==◌, Option, Some, None}
use Rattle.std.proofs.Common.{List, [], ◌∷◌, ◌++◌, refl, ap, sym, subst, ◌∙◌, Result, Ok, Err, arith, append-nil}
use Rattle.std.specs.Prelude.{nat_le, nat_lt, length, drop, is_some, option_to_list}
use Rattle.std.specs.Option.{option_map}
use Rattle.coap_types.specs.declared.endpoint.Endpoint.{Endpoint}
use Rattle.coap_types.specs.declared.option_number.TheConstants.{BLOCK2 as block2}
use Rattle.coap_layer.specs.declared.setup.Setup.{Setup}
use Rattle.coap_block.specs.Sizes.{Sizes}
use Rattle.coap_client.specs.declared.limits.TheConstants.{MAX_WAITING_CALLS as max_waiting}
use Rattle.coap_client.specs.declared.limits.TheConstants.{MAX_OBSERVATIONS as max_observations}
use Rattle.coap_client.specs.declared.refusals.CallRefusal.TheVariants.{QueueFull, BodyTooLarge, BadPath, WatchesFull}
use Rattle.coap_client.specs.declared.refusals.CallRefusal.TheVariants.{CallsSpent}
use Rattle.coap_exchange.specs.declared.asker.AskRefusal.{AskRefusal}
use Rattle.coap_exchange.specs.declared.asker.Turn.{Turn}
use Rattle.coap_exchange.specs.declared.asker.Turn.TheVariants as turn_is
use Rattle.coap_exchange.specs.AskerLaw as X
use Rattle.coap_client.specs.Trace.{is_value, Request, Report, Reported, Call, Calls, Observes, Cancels, Forgets, Feeds}
use Rattle.coap_client.specs.Trace.{Ticks, NextOut, NextReport, Asked}
use Rattle.coap_client.specs.Own.{Transfer, Operation, Registering, Fetching, Cancelling, Observation, Own}
use Rattle.coap_client.specs.Observations.{to_fetch, observation_of, is_live, is_cancelled}
use Rattle.coap_client.specs.Observing.{releases}
use Rattle.coap_client.specs.declared.refusals.CancelRefusal.TheVariants as cancel
use Rattle.coap_client.specs.Queue.{cancel_answer, max_numbers, are_long, block_option_number, is_full, observed}
use Rattle.coap_client.specs.Queue.{call_answer, observe_answer, calling}
use Rattle.coap_client.specs.Requests.{path_options, options_of}
use Rattle.coap_client.specs.Reports.{lapse}
use Rattle.coap_client.specs.Effects.{Deed, Rests, Asks, Keeps, Releases, Effect, stays, runs}
use Rattle.coap_client.specs.Events.{failed, happened, passes, starts as starts_queue, idle, is_held, is_upload_op}
use Rattle.coap_client.specs.Deeds.{at, close}
use Rattle.coap_client.specs.Places.{hit, in_running, in_queue, in_observations, final_of, gone}
use Rattle.coap_client.specs.Steps.{lower, IsRight, reports}
use Rattle.coap_client.specs.Law.{ClientLaw, ClientRows, own_of, lower_of}
use Rattle.coap_client.specs.Sendings.{sent_by}
use Rattle.coap_client_laws.proofs.Uploading.Holds.{goes_fed, goes_ticked}
use Rattle.coap_client.proofs.Facts.Turning.Leading.{client_back}
use Rattle.coap_client.proofs.Facts.Places.Once.{law_back, Known, known, fed, ticked}
use Rattle.coap_client_laws.proofs.Turning.Turns.{closing}
use Rattle.coap_client.proofs.Facts.Places.PlaceEffects.{AllWait}
use Rattle.coap_client.proofs.Facts.Places.PlaceEvents.{lapse_last}
use Rattle.coap_client.proofs.Facts.Places.PlaceLemmas.{hit_self}
use Rattle.coap_client_laws.specs.Follows.Ends.{Unsent, unsent_by}
use Rattle.coap_client_laws.specs.Follows.Taken.{Waiting, ACall, ARegistration, ACancel, waiting_of, is_turn, starts}
use Rattle.coap_client_laws.specs.Follows.Taken.{last_of, over_in, without, numbers_in, next_number, waiting_in}
use Rattle.coap_client_laws.specs.Follows.Taken.{taking_of}
use Rattle.coap_client_laws.specs.Follows.Taken.{observing_of, cancelling_of, StartsFirst, TakesRight, AllTaken}
use Rattle.coap_client_laws.proofs.Queueing.Queued.{Queued, same, over, failed_queued, happened_queued, closed_queued}
use Rattle.coap_client_laws.proofs.Queueing.WaitingLists.{waits, waits_append, waits_without, none_cancelled}
use Rattle.coap_client_laws.proofs.Queueing.WaitingLists.{waits_length}
use Rattle.coap_client_laws.proofs.Queueing.WaitingLists.{waits_some}
use Rattle.coap_client_laws.proofs.Sending.OfCalls.{size_is}

-- what is asked for, by the deed

abbrev pub asks_op : Deed → Option Operation
asks_op (Asks op) = Some op
asks_op _ = None

pub asked_is : (e : Effect) (d : Deed) (token : Result (List ℕ) AskRefusal)
    → elim (sent_by e d token) [
      | Some x ↦ Some x.operation
      | None ↦ option_map (λ (u : Unsent). u.operation)
          (unsent_by d token)
    ] ≡ asks_op d
asked_is e (Asks op) (Ok key) = refl
asked_is e (Asks op) (Err why) = refl
asked_is e _ token = refl

released_none : (o : Option Observation) → asks_op (releases o) ≡ None
released_none None = refl
released_none (Some o) = refl

pub failed_none : (u : Transfer → Bool) (report : Report) (s : Own) (running : Option Operation)
    → asks_op (failed u report s running).deed ≡ None
failed_none u report s (Some (Cancelling k)) = released_none (observation_of k s.observations)
failed_none u report s _ = refl

-- what a tick leaves of what waits, and what starts
record TickQueued (s : Own) (e : Effect) : Type 0 where
  waiting : List Operation
  queued : Queued waiting e
  is : waits waiting ≡ cond (is_turn (asks_op e.deed)) (drop 1 (waits s.queue)) (waits s.queue)
  first : is_turn (asks_op e.deed) ≡ true → (op : Operation) × (asks_op e.deed ≡ Some op)
      × ((w : Waiting) × (waiting_of op ≡ Some w) × ((rest : List Waiting) × (waits s.queue ≡ w ∷ rest)))

none_starts : (s : Own) (e : Effect) → asks_op e.deed ≡ None → Queued s.queue e → TickQueued s e
none_starts s e none h = record {
  waiting = s.queue;
  queued = h;
  is = sym (ap (λ o. cond (is_turn o) (drop 1 (waits s.queue)) (waits s.queue)) none);
  first = λ k. (let z : is_turn None ≡ true = ap is_turn (sym none) ∙ k in absurd (cc z));
}

one_starts : (s : Own) (op : Operation) (queue : List Operation) (w : Waiting) → s.queue ≡ op ∷ queue
    → waiting_of op ≡ Some w → TickQueued s (runs op (record s { queue = queue }))
one_starts s op queue w is some =
    let front : waits s.queue ≡ w ∷ waits queue = ap waits is ∙ ap (λ o. option_to_list o ++ waits queue) some in
    record {
      waiting = queue;
      queued = same refl;
      is = sym (ap (λ o. cond (is_some o) (drop 1 (waits s.queue)) (waits s.queue)) some ∙ ap (drop 1) front);
      first = λ k. (op, refl, (w, some, (waits queue, front)));
    }

fetch_starts : (s : Own) (k : ℕ) → TickQueued s (runs (Fetching k) s)
fetch_starts s k = record { waiting = s.queue; queued = same refl; is = refl; first = λ h. absurd (cc h) }

queue_starts : (s : Own) (now : ℕ) (queue : List Operation) → s.queue ≡ queue → AllWait s.observations queue
    → TickQueued s (starts_queue s now queue)
queue_starts s now [] is h = none_starts s (stays s) refl (same refl)
queue_starts s now (op ∷ queue) is h = by (is_upload_op op && is_held s now)
  where
    by : (b : Bool) → TickQueued s (cond b (stays s) (runs op (record s { queue = queue })))
    by true = none_starts s (stays s) refl (same refl)
    by false = let w = waits_some s.observations op h.0 in one_starts s op queue w.0 is w.1

idle_starts : (s : Own) (now : ℕ) (running : Option Operation) (fetch : Option ℕ) → AllWait s.observations s.queue
    → TickQueued s (idle s now running fetch)
idle_starts s now (Some op) fetch h = none_starts s (stays s) refl (same refl)
idle_starts s now None (Some k) h = fetch_starts s k
idle_starts s now None None h = queue_starts s now s.queue refl h

passes_starts : (s : Own) (now : ℕ) (t : Turn) → AllWait s.observations s.queue → TickQueued s (passes s now t)
passes_starts s now turn_is.Idle h = idle_starts s now s.running (to_fetch s.observations) h
passes_starts s now turn_is.Copied h = none_starts s (stays (record s { sent = now })) refl (same refl)
passes_starts s now (turn_is.End e) h = none_starts s (failed (λ t. true) (lapse e) s s.running)
    (failed_none (λ t. true) (lapse e) s s.running) (failed_queued (λ t. true) (lapse e) s s.running (lapse_last e))

-- a number with its last report is over

last_final : (o : Option Reported) (n : ℕ) → last_of o ≡ Some n → 1 ≤ final_of n o
last_final None n h = absurd (cc h)
last_final (Some x) n h = by (is_value x.report) h
  where
    by : (b : Bool) → cond b None (Some x.number) ≡ Some n → 1 ≤ cond b 0 (hit x.number n)
    by true h = absurd (cc h)
    by false h = let same_number : x.number ≡ n = cc h in let a = ap (λ i. hit i n) same_number in let b =
        hit_self n in omega (arith, a, b)

none_left : (a b c d : ℕ) (f : Bool) → (a + (b + c)) + d ≡ cond f 1 0 → 1 ≤ d → c ≡ 0
none_left a b c d true h k = omega (arith, h, k)
none_left a b c d false h k = absurd (omega (arith, h, k))

module _ (server : Endpoint) (sizes : Sizes) (setup : Setup) where
  abbrev Laws : List Call → Type 0
  Laws t = X.AskerLaw server setup (lower_of sizes t)

  under : (t : List Call) (c : Call) → Laws (c ∷ t) → Laws t
  under t c law = law_back server setup (lower (own_of sizes t) c) (lower_of sizes t) law

  -- behind a datagram or a tick
  module _ (t : List Call) (c : Call) (k : Known server sizes setup (c ∷ t)) (x : Effect)
      (queue_is : (own_of sizes (c ∷ t)).queue ≡ x.own.queue) (reports_is : reports (own_of sizes t) c ≡ x.report)
      (over_is : over_in (own_of sizes t) c ≡ last_of (reports (own_of sizes t) c)) where
    gone_now : (n : ℕ) → over_in (own_of sizes t) c ≡ Some n → 1 ≤ gone sizes n (c ∷ t)
    gone_now n h = let a = last_final (reports (own_of sizes t) c) n (sym over_is ∙ h) in omega (arith, a)

    left_over : (q : List Operation) → (own_of sizes (c ∷ t)).queue ≡ q → (o : Option ℕ)
        → over_in (own_of sizes t) c ≡ o
        → waits (own_of sizes (c ∷ t)).queue ≡ without o (waits q)
    left_over q is None h = ap waits is
    left_over q is (Some n) h =
        let s : Own = own_of sizes (c ∷ t) in
        let none = none_left (in_running n s.running) (in_queue n s.queue) (in_observations n s.observations)
        (gone sizes n (c ∷ t)) (nat_lt n s.taken) (k.one n) (gone_now n h) in
        ap waits is ∙ sym (none_cancelled n s.observations q none (subst (AllWait s.observations) is k.waits))

    turned_waits : (q : List Operation) → Queued q x
        → waits (own_of sizes (c ∷ t)).queue ≡ without (over_in (own_of sizes t) c) (waits q)
    turned_waits q (same h) = left_over q (queue_is ∙ h) (over_in (own_of sizes t) c) refl
    turned_waits q (over n r last made h) =
        let is : over_in (own_of sizes t) c ≡ Some n = over_is
        ∙ (ap last_of (reports_is ∙ made) ∙ ap (λ b. cond b None (Some n)) last) in
        ap waits (queue_is ∙ h) ∙ (waits_without n q ∙ ap (λ o. without o (waits q)) (sym is))

  -- what waits is what the trace says
  abbrev Told : List Call → Type 0
  Told t = waits (own_of sizes t).queue ≡ waiting_in sizes t

  plain : (t : List Call) → Told t → waits (own_of sizes t).queue ≡ waiting_in sizes t ++ []
  plain t h = h ∙ sym (append-nil (waiting_in sizes t))

  more : (t : List Call) (op : Operation) (w : Waiting) → waiting_of op ≡ Some w → Told t
      → waits ((own_of sizes t).queue ++ op ∷ []) ≡ waiting_in sizes t ++ w ∷ []
  more t op w is h = waits_append (own_of sizes t).queue (op ∷ [])
      ∙ (ap (λ z. z ++ (option_to_list (waiting_of op) ++ [])) h
      ∙ ap (λ o. waiting_in sizes t ++ (option_to_list o ++ [])) is)

  pub told : (t : List Call) → ClientRows sizes t → Laws t → Told t
  told [] rows law = refl
  told (Calls now r (Ok n) ∷ t) rows law = more t (calling (own_of sizes t).sizes n r) (ACall n) refl
      (told t rows.1 law)
  told (Observes now path (Ok n) ∷ t) rows law = more t (Registering n path) (ARegistration n) refl (told t rows.1 law)
  told (Cancels now n None ∷ t) rows law = more t (Cancelling n) (ACancel n) refl (told t rows.1 law)
  told (NextOut answer ∷ t) rows law = plain t (told t rows.1 law.1)
  told (Forgets n was true ∷ t) rows law =
      let h = told t rows.1 (under t (Forgets n was true) law) in
      waits_without n (own_of sizes t).queue ∙ (ap (without (Some n)) h
      ∙ sym (append-nil (without (Some n) (waiting_in sizes t))))
  told (Feeds now from bytes w up settled event sent token was ∷ t) rows law =
      let c : Call = Feeds now from bytes w up settled event sent token was in
      let below = under t c law in
      let m : ℕ = max (own_of sizes t).clock now in
      let e : Effect = happened (at now (own_of sizes t)) m event in
      let g = goes_fed server sizes setup t now from bytes w up settled event sent token was
      (known server sizes setup t rows.1 below) law in
      let q = closed_queued m (own_of sizes t).queue e token (closing m e token) (λ op h. (g.asks op h).0)
      (happened_queued (at now (own_of sizes t)) m event) in
      let h = told t rows.1 below in
      turned_waits t c (known server sizes setup (c ∷ t) rows law) (close m e token) refl refl refl
      (own_of sizes t).queue q
      ∙ (ap (without (over_in (own_of sizes t) c)) h
      ∙ sym (append-nil (without (over_in (own_of sizes t) c) (waiting_in sizes t))))
  told (Ticks now w low turn sent token was did ∷ t) rows law =
      let c : Call = Ticks now w low turn sent token was did in
      let below = under t c law in
      let m : ℕ = max (own_of sizes t).clock now in
      let s : Own = at now (own_of sizes t) in
      let e : Effect = passes s m turn in
      let old = known server sizes setup t rows.1 below in
      let g = goes_ticked server sizes setup t now turn old in
      let z = passes_starts s m turn old.waits in
      let q = closed_queued m z.waiting e token (closing m e token) (λ op h. (g.asks op h).0) z.queued in
      let h = told t rows.1 below in
      let so : waits z.waiting ≡ cond (starts (own_of sizes t) c) (drop 1 (waiting_in sizes t)) (waiting_in sizes t)
      = z.is ∙ (ap (λ o. cond (is_turn o) (drop 1 (waits (own_of sizes t).queue)) (waits (own_of sizes t).queue))
      (sym (asked_is e e.deed token)) ∙ ap (λ ws. cond (starts (own_of sizes t) c) (drop 1 ws) ws) h)
      in
      turned_waits t c (known server sizes setup (c ∷ t) rows law) (close m e token) refl refl refl z.waiting q
      ∙ (ap (without (over_in (own_of sizes t) c)) so
      ∙ sym (append-nil (without (over_in (own_of sizes t) c)
      (cond (starts (own_of sizes t) c) (drop 1 (waiting_in sizes t)) (waiting_in sizes t)))))
  told (_ ∷ t) rows law = plain t (told t rows.1 law)

  counted : (t : List Call) → ClientRows sizes t → Laws t → (own_of sizes t).taken ≡ numbers_in t
  counted [] rows law = refl
  counted (Calls now r (Ok n) ∷ t) rows law = let h = counted t rows.1 law in omega (arith, h)
  counted (Observes now path (Ok n) ∷ t) rows law = let h = counted t rows.1 law in omega (arith, h)
  counted (Cancels now n None ∷ t) rows law = let h = counted t rows.1 law in omega (arith, h)
  counted (Forgets n was true ∷ t) rows law = let h =
      counted t rows.1 (under t (Forgets n was true) law) in omega (arith, h)
  counted (NextOut answer ∷ t) rows law = let h = counted t rows.1 law.1 in omega (arith, h)
  counted (Feeds now from bytes w up settled event sent token was ∷ t) rows law =
      let below = under t (Feeds now from bytes w up settled event sent token was) law in
      let a = (fed server sizes setup t now from bytes w up settled event sent token was
      (known server sizes setup t rows.1 below) law).taken_is in
      let h = counted t rows.1 below in
      omega (arith, a, h)
  counted (Ticks now w low turn sent token was did ∷ t) rows law =
      let below = under t (Ticks now w low turn sent token was did) law in
      let a = (ticked server sizes setup t now w low turn sent token was did
      (known server sizes setup t rows.1 below) law).taken_is in
      let h = counted t rows.1 below in
      omega (arith, a, h)
  counted (_ ∷ t) rows law = let h = counted t rows.1 law in omega (arith, h)

  module _ (t : List Call) (rows : ClientRows sizes t) (law : Laws t) where
    abbrev own : Own
    own = own_of sizes t

    full_is : is_full own ≡ nat_le max_waiting (length (waiting_in sizes t))
    full_is = ap (nat_le max_waiting) (sym (waits_length own.observations own.queue
        (known server sizes setup t rows law).waits) ∙ ap length (told t rows law))

    next_by : (n : ℕ) → own.taken ≡ n → cond (own.taken == max_numbers) (Err CallsSpent) (Ok own.taken)
        ≡ cond (n == max_numbers) (Err CallsSpent) (Ok n)
    next_by n is = ap (λ i. cond (i == max_numbers) (Err CallsSpent) (Ok i)) is

    pub call_is : (r : Request) → call_answer own r ≡ taking_of sizes t r
    call_is r =
        ap (λ b. cond b (Err QueueFull) (cond (nat_lt own.sizes.limit (length r.body)) (Err BodyTooLarge)
        (cond (are_long (block_option_number r.method) (options_of r)) (Err BadPath)
        (cond (own.taken == max_numbers) (Err CallsSpent) (Ok own.taken))))) full_is
        ∙ (ap (λ z. cond (nat_le max_waiting (length (waiting_in sizes t))) (Err QueueFull)
        (cond (nat_lt own.sizes.limit (length r.body)) (Err BodyTooLarge)
        (cond (are_long (block_option_number r.method) (options_of r)) (Err BadPath) z)))
        (next_by (numbers_in t) (counted t rows law))
        ∙ ap (λ (z : Sizes). cond (nat_le max_waiting (length (waiting_in sizes t))) (Err QueueFull)
        (cond (nat_lt z.limit (length r.body)) (Err BodyTooLarge)
        (cond (are_long (block_option_number r.method) (options_of r)) (Err BadPath) (next_number sizes t))))
        (size_is sizes t))

    pub observation_is : (path : List (List ℕ)) → observe_answer own path ≡ observing_of sizes t path
    observation_is path =
        ap (λ b. cond b (Err QueueFull) (cond (are_long block2 (path_options path)) (Err BadPath)
        (cond (nat_le max_observations (observed own)) (Err WatchesFull)
        (cond (own.taken == max_numbers) (Err CallsSpent) (Ok own.taken))))) full_is
        ∙ ap (λ z. cond (nat_le max_waiting (length (waiting_in sizes t))) (Err QueueFull)
        (cond (are_long block2 (path_options path)) (Err BadPath)
        (cond (nat_le max_observations (observed own)) (Err WatchesFull) z)))
        (next_by (numbers_in t) (counted t rows law))

    pub cancel_is : (number : ℕ) → cancel_answer own number ≡ cancelling_of sizes t number
    cancel_is number = ap (λ b. cond (not (is_live number own) || is_cancelled number own) (Some cancel.Unknown)
        (cond b (Some cancel.QueueFull) None)) full_is

  starts_first : (t : List Call) (c : Call) → ClientLaw server sizes setup (c ∷ t) → starts (own_of sizes t) c ≡ true
      → StartsFirst sizes t c
  starts_first t (Ticks now w low turn sent token was did) law h =
      let c : Call = Ticks now w low turn sent token was did in
      let below = under t c law.exchanges.rows in
      let m : ℕ = max (own_of sizes t).clock now in
      let s : Own = at now (own_of sizes t) in
      let e : Effect = passes s m turn in
      let z = passes_starts s m turn (known server sizes setup t law.rows.1 below).waits in
      let f = z.first (ap is_turn (sym (asked_is e e.deed token)) ∙ h) in
      record {
        operation = f.0;
        asked = asked_is e e.deed token ∙ f.1;
        first = f.2.0;
        is = f.2.1;
        rest = f.2.2.0;
        waits = sym (told t law.rows.1 below) ∙ f.2.2.1;
      }
  starts_first t _ law h = absurd (cc h)

  takes_here : (t : List Call) (c : Call) → ClientLaw server sizes setup (c ∷ t) → TakesRight sizes t c
  takes_here t c law =
      let below = under t c law.exchanges.rows in
      record {
        calls = λ now r answer is. (let row : answer
            ≡ call_answer (own_of sizes t) r = subst (IsRight (own_of sizes t)) is law.rows.0 in row
            ∙ call_is t law.rows.1 below r);
        observes = λ now path answer is. (let row : answer
            ≡ observe_answer (own_of sizes t) path = subst (IsRight (own_of sizes t)) is law.rows.0 in row
            ∙ observation_is t law.rows.1 below path);
        cancels = λ now number answer is. (let row : answer
            ≡ cancel_answer (own_of sizes t) number = subst (IsRight (own_of sizes t)) is law.rows.0 in row
            ∙ cancel_is t law.rows.1 below number);
        in_order = starts_first t c law;
      }

  pub all_taken : (t : List Call) → ClientLaw server sizes setup t → AllTaken sizes t
  all_taken [] law = tt
  all_taken (c ∷ t) law = (takes_here t c law, all_taken t (client_back server sizes setup (c ∷ []) t law))
