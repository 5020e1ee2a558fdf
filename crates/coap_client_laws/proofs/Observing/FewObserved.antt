-- At most MAX_OBSERVATIONS observations wait, run or are live.
use Rattle.std.proofs.Common.{◌≡◌, ◌≤◌, ℕ, ◌+◌, max, Bool, true, false, cond, not, ◌&&◌, Option, Some, None, List, ◌∷◌}
use Rattle.std.proofs.Common.{◌++◌, [], map, refl, ap, Result, Ok, Err, arith, length}
use Rattle.std.specs.Prelude.{◌==◌, nat_le, filter, option_to_list}
use Rattle.std.proofs.lemmas.Bool.{leb-false}
use Rattle.coap_types.specs.declared.option_number.TheConstants.{BLOCK2 as block2}
use Rattle.coap_block.specs.Sizes.{Sizes}
use Rattle.coap_block.specs.declared.fetch_verdict.Verdict.TheVariants as verdict
use Rattle.coap_exchange.specs.declared.asker.AskRefusal.{AskRefusal}
use Rattle.coap_exchange.specs.declared.asker.Event.{Event}
use Rattle.coap_observe.specs.Newer.{arrived}
use Rattle.coap_client.specs.declared.limits.TheConstants.{MAX_OBSERVATIONS as max_observations}
use Rattle.coap_client.specs.declared.refusals.CallRefusal.{CallRefusal}
use Rattle.coap_client.specs.declared.refusals.CallRefusal.TheVariants.{QueueFull, BadPath, WatchesFull, CallsSpent}
use Rattle.coap_client.specs.Trace.{Report, Reported, NoIds, Call, Calls, Observes, Cancels, Forgets, Feeds, Ticks}
use Rattle.coap_client.specs.Trace.{NextOut, NextReport, Asked}
use Rattle.coap_client.specs.Own.{Transfer, Operation, Calling, Registering, Fetching, Cancelling, Dropped}
use Rattle.coap_client.specs.Own.{Observation, Own}
use Rattle.coap_client.specs.Observations.{is_cancel_of, dropped}
use Rattle.coap_client.specs.Requests.{path_options}
use Rattle.coap_client.specs.Responses.{sequence_in}
use Rattle.coap_client.specs.Reports.{lapse}
use Rattle.coap_client.specs.Effects.{Effect, has_sent, ends, of, is_upload}
use Rattle.coap_client.specs.Fetching.{rest as rest_left}
use Rattle.coap_client.specs.Observing.{begun, first_rest}
use Rattle.coap_client.specs.Events.{failed, closed}
use Rattle.coap_client.specs.Queue.{max_numbers, are_long, is_full, is_registration, observed, calling}
use Rattle.coap_client.specs.Deeds.{at}
use Rattle.coap_client.specs.Law.{ClientRows, own_of}
use Rattle.coap_client.specs.Turns.Moves as mv
use Rattle.coap_client.specs.Turns.Moves.{Move, left_by}
use Rattle.coap_client_laws.proofs.Queueing.Closing.{Closing, quiet, goes_out, is_refused}
use Rattle.coap_client_laws.proofs.Turning.Turns.{Turned, fed_turned, ticked_turned}

-- how many registrations there are

abbrev pub registrations : List Operation → ℕ
registrations ops = length (filter is_registration ops)

abbrev pub running_one : Option Operation → ℕ
running_one running = registrations (option_to_list running)

abbrev pub count : Own → ℕ
count s = running_one s.running + (registrations s.queue + length s.observations)

longer : (b : Bool) (op : Operation) (ops : List Operation)
    → length (cond b (op ∷ ops) ops) ≡ length (cond b (op ∷ []) []) + length ops
longer true op ops = omega arith
longer false op ops = omega arith

reg_cons : (op : Operation) (ops : List Operation)
    → registrations (op ∷ ops) ≡ running_one (Some op) + registrations ops
reg_cons op ops = longer (is_registration op) op (filter is_registration ops)

reg_append : (xs ys : List Operation) → registrations (xs ++ ys) ≡ registrations xs + registrations ys
reg_append [] ys = omega arith
reg_append (x ∷ xs) ys =
    let a = reg_cons x (xs ++ ys) in
    let b = reg_cons x xs in
    let ih = reg_append xs ys in
    omega (arith, a, b, ih)

pub count_is : (s : Own) → observed s ≡ count s
count_is s = let a = reg_append (option_to_list s.running) s.queue in omega (arith, a)

reg_uncancelled : (k : ℕ) (ops : List Operation)
    → registrations (filter (λ op. not (is_cancel_of k op)) ops) ≤ registrations ops
reg_uncancelled k [] = omega arith
reg_uncancelled k (op ∷ ops) = by (is_cancel_of k op) (reg_uncancelled k ops)
  where
    fewer : List Operation
    fewer = filter (λ o. not (is_cancel_of k o)) ops

    by : (b : Bool) → registrations fewer ≤ registrations ops
        → registrations (cond (not b) (op ∷ fewer) fewer) ≤ registrations (op ∷ ops)
    by true ih = let a = reg_cons op ops in omega (arith, a, ih)
    by false ih = let a = reg_cons op ops in let b = reg_cons op fewer in omega (arith, a, b, ih)

one_dropped : (k : ℕ) (running : Option Operation) → running_one (dropped k running) ≡ running_one running
one_dropped k (Some (Fetching number)) = by (number == k)
  where
    by : (b : Bool) → running_one (cond b (Some Dropped) (Some (Fetching number))) ≡ 0
    by true = refl
    by false = refl
one_dropped k _ = refl

same_length : {A : Type 0} (f : A → A) (xs : List A) → length (map f xs) ≡ length xs
same_length f [] = refl
same_length f (x ∷ xs) = let ih = same_length f xs in omega (arith, ih)

one_more : (os : List Observation) (o : Observation) → length (os ++ o ∷ []) ≡ length os + 1
one_more [] o = refl
one_more (p ∷ os) o = let ih = one_more os o in omega (arith, ih)

length_without : (k : ℕ) (os : List Observation)
    → length (filter (λ (o : Observation). not (o.number == k)) os) ≤ length os
length_without k [] = omega arith
length_without k (o ∷ os) = by (o.number == k) (length_without k os)
  where
    fewer : List Observation
    fewer = filter (λ (p : Observation). not (p.number == k)) os

    by : (b : Bool) → length fewer ≤ length os → length (cond (not b) (o ∷ fewer) fewer) ≤ length (o ∷ os)
    by true ih = omega (arith, ih)
    by false ih = omega (arith, ih)

-- none comes in a failure, nor in a move

count_held : (s : Own) (c : Bool) (report : Option Reported)
    → count (ends report (cond c (record s { hold = Some s.sent }) s)).own ≤ count s
count_held s true report = omega arith
count_held s false report = omega arith

count_changed : (s : Own) (f : Observation → Observation) (running : Option Operation)
    → running_one running ≤ running_one s.running
    → count (record s { running = running; observations = map f s.observations }) ≤ count s
count_changed s f running less = let a = same_length f s.observations in omega (arith, a, less)

count_over : (k : ℕ) (s : Own) → count (Rattle.coap_client.specs.Observations.over k s) ≤ count s
count_over k s =
    let a = one_dropped k s.running in
    let b = reg_uncancelled k s.queue in
    let c = length_without k s.observations in
    omega (arith, a, b, c)

count_failed : (s : Own) (u : Transfer → Bool) (report : Report) (running : Option Operation)
    → count (failed u report s running).own ≤ count s
count_failed s u report (Some (Calling k r t)) = count_held s (u t && is_upload t) (of k report)
count_failed s u report (Some (Fetching k)) =
    count_changed s (λ (o : Observation). cond (o.number == k) (record o { rest = None }) o) None (omega arith)
count_failed s u report (Some (Cancelling k)) = let a = count_over k (record s { running = None }) in omega (arith, a)
count_failed s u report _ = omega arith

module _ (s : Own) (now : ℕ) (told : Option Event) where
  count_moves : (mo : Move s now told) → count (left_by s now told mo).own ≤ count s
  count_moves (mv.starts_next op queue none rest first q) =
      let a = ap running_one none in
      let b = ap registrations first in
      let c = reg_cons op queue in
      omega (arith, a, b, c)
  count_moves (mv.is_done k r tr final rep a hears_it runs ends_so) = count_held s (not final && is_upload tr)
      (of k rep)
  count_moves (mv.registers k path a hears_it runs note) =
      let b : running_one s.running ≡ 1 = ap running_one runs in
      let c = one_more s.observations (begun k path s.sizes now a) in
      omega (arith, b, c)
  count_moves (mv.fetches_on k n a num size hears_it runs rest code asks) =
      count_changed s (λ (o : Observation). cond (o.number == k)
      (record o { rest = rest_left n.sequence n.fetch a (verdict.Ask num size) }) o) (Some (Fetching k)) (omega arith)
  count_moves (mv.fetched k n a hears_it runs rest code done) =
      count_changed s (λ (o : Observation). cond (o.number == k) (record o { rest = None }) o) None (omega arith)
  count_moves (mv.gives_up k a hears_it runs) =
      count_changed s (λ (o : Observation). cond (o.number == k) (record o { rest = None }) o) None (omega arith)
  count_moves (mv.cancels k a hears_it runs) = let b = count_over k (record s { running = None }) in omega (arith, b)
  count_moves (mv.fails e un) = count_failed s (λ t. true) (lapse e) s.running
  count_moves (mv.is_ended o a notes found note) = count_over o.number s
  count_moves (mv.renews o a notes found note newer) =
      let b = one_dropped o.number s.running in
      count_changed s (λ (p : Observation). cond (p.number == o.number) (record p
      { watch = arrived p.watch (sequence_in a) now true; rest = first_rest s.sizes a }) p)
      (dropped o.number s.running) (omega (arith, b))
  count_moves (mv.passes_by o a notes found note newer) =
      count_changed s (λ (p : Observation). cond (p.number == o.number)
      (record p { watch = arrived p.watch (sequence_in a) now false }) p) s.running (omega arith)
  count_moves _ = omega arith

count_closed : (now : ℕ) (e : Effect) (token : Result (List ℕ) AskRefusal) → Closing now e token
    → count (closed now e e.deed token).own ≤ count e.own
count_closed now e token (quiet q none own_same report_same) = let a = ap count own_same in omega (arith, a)
count_closed now e token (goes_out op key asks given sends_it own_same report_same) =
    let a = ap count own_same in omega (arith, a)
count_closed now e token (is_refused op why asks given none all) =
    let a = ap (λ (x : Effect). count x.own) all in
    let b = count_failed e.own has_sent NoIds (Some op) in
    omega (arith, a, b)

-- an observation is taken where fewer are there
few_if : (a b c d : Bool) (e f g i : CallRefusal) (k taken : ℕ)
    → Ok k ≡ cond a (Err e) (cond b (Err f) (cond c (Err g) (cond d (Err i) (Ok taken)))) → c ≡ false
few_if false false false d e f g i k taken h = refl
few_if _ _ _ d e f g i k taken h = absurd (cc h)

module _ (sizes : Sizes) where
  count_turned : (t : List Call) (c : Call) → Turned sizes t c → count (own_of sizes (c ∷ t)) ≤ count (own_of sizes t)
  count_turned t c k =
      let m : ℕ = max (own_of sizes t).clock k.now in
      let s : Own = at k.now (own_of sizes t) in
      let e : Effect = left_by s m k.told k.move in
      let a = ap count k.own_is in
      let b = count_closed m e k.token k.closes in
      let d = count_moves s m k.told k.move in
      omega (arith, a, b, d)

  pub few_count : (t : List Call) → ClientRows sizes t → count (own_of sizes t) ≤ max_observations
  few_count [] rows = omega arith
  few_count (Calls now r (Ok n) ∷ t) rows =
      let ih = few_count t rows.1 in
      let a = reg_append (own_of sizes t).queue (calling (own_of sizes t).sizes n r ∷ []) in
      omega (arith, ih, a)
  few_count (Observes now path (Ok n) ∷ t) rows =
      let s : Own = own_of sizes t in
      let a = reg_append s.queue (Registering n path ∷ []) in
      let b : nat_le max_observations (observed s) ≡ false = few_if (is_full s) (are_long block2 (path_options path))
      (nat_le max_observations (observed s)) (s.taken == max_numbers) QueueFull BadPath WatchesFull CallsSpent n
      s.taken rows.0 in
      let d = leb-false max_observations (observed s) b in
      let e = count_is s in
      omega (arith, a, d, e)
  few_count (Cancels now k None ∷ t) rows =
      let ih = few_count t rows.1 in
      let a = reg_append (own_of sizes t).queue (Cancelling k ∷ []) in
      omega (arith, ih, a)
  few_count (Forgets k was true ∷ t) rows =
      let ih = few_count t rows.1 in let a = count_over k (own_of sizes t) in omega (arith, ih, a)
  few_count (Feeds now from bytes w up settled event sent token was ∷ t) rows =
      let ih = few_count t rows.1 in
      let a = count_turned t (Feeds now from bytes w up settled event sent token was)
      (fed_turned sizes t now from bytes w up settled event sent token was) in
      omega (arith, ih, a)
  few_count (Ticks now w below turn sent token was answer ∷ t) rows =
      let ih = few_count t rows.1 in
      let a = count_turned t (Ticks now w below turn sent token was answer)
      (ticked_turned sizes t now w below turn sent token was answer) in
      omega (arith, ih, a)
  few_count (_ ∷ t) rows = few_count t rows.1
