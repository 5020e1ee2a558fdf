-- A tick of a client that does something leaves less to be done at its moment.
use Rattle.std.proofs.Common.{◌≡◌, ◌≤◌, ◌<◌, inl, inr, ◌⊎◌, ℕ, ◌+◌, max, Bool, true, false, not, ◌&&◌, cond, Option}
use Rattle.std.proofs.Common.{Some, None, is_some, List, [], ◌∷◌, ◌++◌, length, filter, Result, Ok, Err, IfOk, refl, ap}
use Rattle.std.proofs.Common.{sym, subst, ◌∙◌, arith}
use Rattle.std.specs.Prelude.{◌==◌}
use Rattle.std.specs.Cmp.{unsigned_Decides}
use Rattle.std.proofs.lemmas.List.Sums.{length-filter, count_by-le-length}
use Rattle.coap_layer.specs.Machine.State as S
use Rattle.coap_layer.specs.Trace as L
use Rattle.coap_layer.proofs.Facts.CallsOfLayer.{step_clock}
use Rattle.coap_exchange.specs.declared.asker.AskRefusal.{AskRefusal}
use Rattle.coap_exchange.specs.declared.asker.Turn.{Turn}
use Rattle.coap_exchange.specs.declared.asker.Turn.TheVariants as turn
use Rattle.coap_exchange.specs.AskerTrace as E
use Rattle.coap_exchange.specs.AskerRequests as Q
use Rattle.coap_exchange.specs.AskerArrivals as R
use Rattle.coap_exchange.specs.AskerArrivals.{has_waited, acked_in}
use Rattle.coap_exchange.specs.AskerLaw as X
use Rattle.coap_exchange.proofs.Facts.ClientSide.{exchanged_split}
use Rattle.coap_exchange.specs.StepsDue.{one_if, due_count}
use Rattle.coap_client.specs.Trace.{Report, NoIds, Ticks}
use Rattle.coap_client.specs.Own.{Transfer, Operation, Calling, Registering, Fetching, Cancelling, Dropped, Observation}
use Rattle.coap_client.specs.Own.{Own}
use Rattle.coap_client.specs.Observations.{is_cancel_of, to_fetch, with_rest}
use Rattle.coap_client.specs.Effects.{Deed, Rests, Asks, Keeps, Releases, Effect, stays, runs, is_upload, has_sent}
use Rattle.coap_client.specs.Events.{closed, failed, idle, is_held, is_upload_op, passes, starts}
use Rattle.coap_client.specs.Reports.{lapse}
use Rattle.coap_client.specs.Requests.{message_of}
use Rattle.coap_client.specs.Deeds.{at, close, deeds}
use Rattle.coap_client.specs.Steps.{asks}
use Rattle.coap_client.specs.Led.{State, Step}
use Rattle.coap_client.specs.Turns.Work.{is_wait_due, awaits_fetch, is_fetched, to_begin, work}
use Rattle.coap_client.proofs.Rest.ExchangeTurns.{IsTaken, opened_least, turn_taken}
use Rattle.coap_exchange.proofs.Facts.StepsDue.{is_step, ticks_least, ticks_fewer}
use Rattle.coap_client.proofs.Facts.Uploading.Holding.{passes_steady, steadied}
use Rattle.coap_client.proofs.Facts.Calls.Happening.{AsksNothing}
use Rattle.coap_client.proofs.Facts.Calls.PassingLemmas.{fails_silently}

-- how many observations wait to be fetched

abbrev fetches : Option Operation → List Observation → ℕ
fetches running os = length (filter (awaits_fetch running) os)

-- .. where one is fetched
fewer_wait : (running : Option Operation) (os : List Observation) → fetches running os ≤ fetches None os
fewer_wait running [] = omega arith
fewer_wait running (o ∷ os) = by (is_some o.rest) (is_fetched running o) (fewer_wait running os)
  where
    by : (r f : Bool) → fetches running os ≤ fetches None os
        → length (cond (r && not f) (o ∷ filter (awaits_fetch running) os) (filter (awaits_fetch running) os))
        ≤ length (cond (r && not false) (o ∷ filter (awaits_fetch None) os) (filter (awaits_fetch None) os))
    by true true h = omega (arith, h)
    by true false h = omega (arith, h)
    by false f h = h

-- .. the first for which something is to be fetched
fetched_fewer : (os : List Observation) (number : ℕ) → to_fetch os ≡ Some number
    → fetches (Some (Fetching number)) os + 1 ≤ fetches None os
fetched_fewer [] number h = absurd (cc h)
fetched_fewer (o ∷ os) number h = by (is_some o.rest) h (fetched_fewer os number)
  where
    left : List Observation
    left = filter (awaits_fetch (Some (Fetching number))) os

    all : List Observation
    all = filter (awaits_fetch None) os

    by : (r : Bool) → cond r (Some o.number) (to_fetch os) ≡ Some number
        → (to_fetch os ≡ Some number → length left + 1 ≤ length all)
        → length (cond (r && not (o.number == number)) (o ∷ left) left) + 1
        ≤ length (cond (r && not false) (o ∷ all) all)
    by true e f =
        let same : (o.number == number) ≡ true = (unsigned_Decides o.number number).1 (cc e) in
        let k = fewer_wait (Some (Fetching number)) os in
        subst (λ b. length (cond (not b) (o ∷ left) left) + 1 ≤ length (o ∷ all)) (sym same) (omega (arith, k))
    by false e f = f e

-- .. where that fetch is over
fetch_over_least : (number : ℕ) (os : List Observation)
    → fetches None (with_rest number None os) ≤ fetches (Some (Fetching number)) os
fetch_over_least number [] = omega arith
fetch_over_least number (o ∷ os) = by (o.number == number) (is_some o.rest) refl (fetch_over_least number os)
  where
    left : List Observation
    left = filter (awaits_fetch None) (with_rest number None os)

    all : List Observation
    all = filter (awaits_fetch (Some (Fetching number))) os

    both : (r : Bool) → length left ≤ length all
        → length (cond (r && not false) (o ∷ left) left) ≤ length (cond (r && not false) (o ∷ all) all)
    both true h = omega (arith, h)
    both false h = h

    by : (b r : Bool) → is_some o.rest ≡ r → length left ≤ length all
        → length (cond (is_some (cond b (record o { rest = None }) o).rest && not false)
        (cond b (record o { rest = None }) o ∷ left) left) ≤ length (cond (r && not b) (o ∷ all) all)
    by true true e h = h
    by true false e h = h
    by false r e h = subst (λ q. length (cond (q && not false) (o ∷ left) left)
        ≤ length (cond (r && not false) (o ∷ all) all)) (sym e) (both r h)

-- .. of some of the observations
some_least : (p : Observation → Bool) (running : Option Operation) (os : List Observation)
    → fetches running (filter p os) ≤ fetches running os
some_least p running [] = omega arith
some_least p running (o ∷ os) = by (p o) (awaits_fetch running o) refl (some_least p running os)
  where
    left : List Observation
    left = filter (awaits_fetch running) (filter p os)

    all : List Observation
    all = filter (awaits_fetch running) os

    by : (b w : Bool) → awaits_fetch running o ≡ w → length left ≤ length all
        → length (filter (awaits_fetch running) (cond b (o ∷ filter p os) (filter p os)))
        ≤ length (cond w (o ∷ all) all)
    by true true e h = subst (λ q. length (cond q (o ∷ left) left) ≤ length (o ∷ all)) (sym e) (omega (arith, h))
    by true false e h = subst (λ q. length (cond q (o ∷ left) left) ≤ length all) (sym e) h
    by false true e h = omega (arith, h)
    by false false e h = h

fewer_pass : {A : Type 0} (p : A → Bool) (xs : List A) → length (filter p xs) ≤ length xs
fewer_pass p xs = let a = length-filter p xs in let b = count_by-le-length p xs in omega (arith, a, b)

-- what has not begun, where that runs
abbrev left_by : Option Operation → Own → ℕ
left_by running s = length s.queue + fetches running s.observations

-- a failure begins nothing
failed_least : (u : Transfer → Bool) (report : Report) (s : Own) (running : Option Operation)
    → to_begin (failed u report s running).own ≤ left_by running s
failed_least u report s None = let k = fewer_wait s.running s.observations in omega (arith, k)
failed_least u report s (Some (Calling number r t)) = by (u t && is_upload t)
  where
    by : (b : Bool) → to_begin (record (cond b (record s { hold = Some s.sent }) s) { running = None }) ≤ left_by None s
    by true = omega arith
    by false = omega arith
failed_least u report s (Some (Fetching number)) = let k = fetch_over_least number s.observations in omega (arith, k)
failed_least u report s (Some (Cancelling number)) =
    let a = fewer_pass (λ op. not (is_cancel_of number op)) s.queue in
    let b = some_least (λ o. not (o.number == number)) None s.observations in
    omega (arith, a, b)
failed_least u report s _ = omega arith

-- .. nor does a request, beside the operation that runs
asked_least : (m : ℕ) (op : Operation) (s : Own) (token : Result (List ℕ) AskRefusal)
    → to_begin (closed m (runs op s) (Asks op) token).own ≤ left_by (Some op) s
asked_least m op s (Ok token) = omega arith
asked_least m op s (Err why) = failed_least has_sent NoIds (runs op s).own (Some op)

-- what begins at a tick

abbrev LessBegins : ℕ → Effect → Result (List ℕ) AskRefusal → ℕ → Type 0
LessBegins m e token n = asks e.deed ≡ true → to_begin (closed m e e.deed token).own + 1 ≤ n

starts_fewer : (m now : ℕ) (s : Own) (token : Result (List ℕ) AskRefusal) (q : List Operation)
    → LessBegins m (starts s now q) token (length q + fetches None s.observations)
starts_fewer m now s token [] h = absurd (cc h)
starts_fewer m now s token (op ∷ q) h = by (is_upload_op op && is_held s now) h
  where
    by : (b : Bool) → LessBegins m (cond b (stays s) (runs op (record s { queue = q }))) token
        (length (op ∷ q) + fetches None s.observations)
    by true h = absurd (cc h)
    by false h = let k = asked_least m op (record s { queue = q }) token in let f =
        fewer_wait (Some op) s.observations in omega (arith, k, f)

idle_fewer : (m : ℕ) (s : Own) (token : Result (List ℕ) AskRefusal) (running : Option Operation) (number : Option ℕ)
    → to_fetch s.observations ≡ number → LessBegins m (idle s m running number) token (left_by running s)
idle_fewer m s token (Some op) number is h = absurd (cc h)
idle_fewer m s token None (Some number) is h = let k = asked_least m (Fetching number) s token in let f =
    fetched_fewer s.observations number is in omega (arith, k, f)
idle_fewer m s token None None is h = starts_fewer m m s token s.queue h

-- where no request is asked for

silent_own : (m : ℕ) (e : Effect) (token : Result (List ℕ) AskRefusal) (d : Deed) → AsksNothing d
    → (closed m e d token).own ≡ e.own
silent_own m e token (Asks op) n = absurd n
silent_own m e token _ n = refl

-- what is asked of the exchanges has no step due

record Least (m : ℕ) (s t : S.State) : Type 0 where
  clock : max t.clock m ≡ max s.clock m
  least : due_count (max s.clock m) t.open_cons ≤ due_count (max s.clock m) s.open_cons

same_least : (m : ℕ) (s t : S.State) → t ≡ s → Least m s t
same_least m s t is = subst (Least m s) (sym is) (record { clock = refl; least = omega arith })

then_least : (m : ℕ) (s t u : S.State) → Least m s t → Least m t u → Least m s u
then_least m s t u h k =
    let later : due_count (max s.clock m) u.open_cons ≤ due_count (max s.clock m) t.open_cons =
    subst (λ n. due_count n u.open_cons ≤ due_count n t.open_cons) h.clock k.least in
    let first = h.least in
    record { clock = k.clock ∙ h.clock; least = omega (arith, later, first) }

-- the wait of the exchange that runs, where its end is due

abbrev wait : ℕ → E.Own → ℕ
wait m o = one_if (is_wait_due o m)

wait_later : (m : ℕ) (o : E.Own) → wait m (record o { clock = max o.clock m }) ≡ wait m o
wait_later m o = let twice : max (max o.clock m) m ≡ max o.clock m = omega arith in
    ap (λ n. one_if (has_waited n (acked_in o.running))) twice

opened_wait : (m : ℕ) (o : E.Own) (r : E.Request) (id : Option ℕ)
    → wait m (record (Q.opened o r id) { clock = max o.clock m }) ≤ wait m o
opened_wait m o r None = let k = wait_later m o in omega (arith, k)
opened_wait m o r (Some id) = omega arith

module _ (m w : ℕ) (sent : L.Answer) (token : Result (List ℕ) AskRefusal) (kept : Bool) where
  abbrev Done : Deed → Own → X.State → X.State → Type 0
  Done d o x y = X.Exchanged x (deeds d o m w sent token kept) y

  deed_least : (d : Deed) (o : Own) (x y : X.State) → Done d o x y → Least m x.layer y.layer
  deed_least Rests o x y h = same_least m x.layer y.layer (ap (λ (z : X.State). z.layer) h)
  deed_least (Asks op) o x y h =
      let under = h.2.under in
      let r = message_of o.observations op in
      let e = h.0.own in
      let k = opened_least under.0 y.layer m (Q.opening_of e r) e.server
      (Q.content_of (Q.request_token e r) r) w sent under.2 in
      let clock = k.0 in
      let same = k.1 in
      subst (λ s. Least m s y.layer) (under.1 ∙ ap (λ (z : X.State). z.layer) h.1)
      (record { clock = omega (arith, clock); least = omega (arith, same) })
  deed_least _ o x y h = same_least m x.layer y.layer (h.2.under ∙ ap (λ (z : X.State). z.layer) h.1)

  -- .. nor a wait that is due
  deed_wait : (d : Deed) (o : Own) (x y : X.State) → Done d o x y → wait m y.own ≤ wait m x.own
  deed_wait Rests o x y h = let k = ap (λ (z : X.State). wait m z.own) h in omega (arith, k)
  deed_wait (Asks op) o x y h =
      let e = h.0.own in
      let r = message_of o.observations op in
      let k = ap (wait m) h.2.own_is in
      let j = ap (λ (z : X.State). wait m z.own) h.1 in
      let l = opened_wait m e r (Q.sent_as (Q.opening_of e r) sent) in
      omega (arith, k, j, l)
  deed_wait _ o x y h = let k = ap (wait m) h.2.own_is in let j = ap (λ (z : X.State). wait m z.own) h.1 in omega
      (arith, k, j)

-- a tick

module _ (old new : State) (now w : ℕ) (below : L.Answer) (sent : L.Answer) (token : Result (List ℕ) AskRefusal)
    (kept : Bool) where
  abbrev m : ℕ
  m = max old.own.clock now

  abbrev effect : Turn → Effect
  effect d = passes (at now old.own) m d

  abbrev closing : Turn → Effect
  closing d = close m (effect d) token

  abbrev Ticked : Turn → Type 0
  Ticked d = Step old (Ticks now w below d sent token kept true) new

  -- what is due at this moment
  abbrev due : S.State → ℕ
  due s = due_count (max old.layer.layer.clock m) s.open_cons

  record Parts (d : Turn) : Type 0 where
    ticked : X.State
    between : X.State
    tick : X.Step old.layer (E.Ticks m below d) ticked
    first : Done m w sent token kept (effect d).deed (effect d).own ticked between
    last : Done m w sent token kept (closing d).deed (closing d).own between new.layer

  parts : (d : Turn) → Ticked d → Parts d
  parts d step =
      let first = deeds (effect d).deed (effect d).own m w sent token kept in
      let last = deeds (closing d).deed (closing d).own m w sent token kept in
      let k = exchanged_split old.layer new.layer last (first ++ E.Ticks m below d ∷ []) step.under in
      let j = exchanged_split old.layer k.0 first (E.Ticks m below d ∷ []) k.1 in
      record {
        ticked = j.0;
        between = k.0;
        tick = subst (λ x. X.Step x (E.Ticks m below d) j.0) j.1.1 j.1.2;
        first =
            j.2;
        last = k.2;
      }

  begin_is : (d : Turn) → Ticked d → to_begin new.own ≡ to_begin (closing d).own
  begin_is d step = ap to_begin step.own_is

  -- what a tick leaves due: steps of CONs and the end of a wait
  record Takes (d : Turn) (p : Parts d) : Type 0 where
    now_due : work new now ≡ due new.layer.layer + (wait m new.layer.own + to_begin new.own)
    waits : wait m new.layer.own ≤ wait m p.ticked.own
    least : due new.layer.layer ≤ due old.layer.layer
    fewer : is_step below ≡ true → due new.layer.layer < due old.layer.layer

  takes : (d : Turn) → Ticked d → (p : Parts d) → Takes d p
  takes d step p =
      let under = p.tick.under in
      let tick : S.Step old.layer.layer m L.Ticks below p.ticked.layer =
      subst (λ s. S.Step s m L.Ticks below p.ticked.layer) under.1 under.2 in
      let clock = step_clock old.layer.layer p.ticked.layer m L.Ticks below tick in
      let rest = then_least m p.ticked.layer p.between.layer new.layer.layer
      (deed_least m w sent token kept (effect d).deed (effect d).own p.ticked p.between p.first)
      (deed_least m w sent token kept (closing d).deed (closing d).own p.between new.layer p.last) in
      let own : new.own.clock ≡ m = ap (λ (s : Own). s.clock) step.own_is
      ∙ (steadied (at now old.own) m (effect d) token (effect d).deed refl
      (passes_steady (at now old.own) m d)).clock in
      let later = rest.clock in
      let ticked_at : max p.ticked.layer.clock m ≡ max old.layer.layer.clock m = omega (arith, clock) in
      let handed : max new.own.clock now ≡ m = omega (arith, own) in
      let moment : max new.layer.layer.clock m ≡ max old.layer.layer.clock m = omega (arith, later, ticked_at) in
      let behind : due new.layer.layer ≤ due p.ticked.layer =
      subst (λ n. due_count n new.layer.layer.open_cons ≤ due_count n p.ticked.layer.open_cons) ticked_at rest.least
      in
      let first = ticks_least old.layer.layer p.ticked.layer m below tick in
      let soon = deed_wait m w sent token kept (effect d).deed (effect d).own p.ticked p.between p.first in
      let late = deed_wait m w sent token kept (closing d).deed (closing d).own p.between new.layer p.last in
      record {
        now_due = ap (λ n. due_count (max new.layer.layer.clock n) new.layer.layer.open_cons
            + (one_if (is_wait_due new.layer.own n) + to_begin new.own)) handed
            ∙ ap (λ n. due_count n new.layer.layer.open_cons + (wait m new.layer.own + to_begin new.own)) moment;
        waits = omega (arith, soon, late);
        least = omega (arith, behind, first);
        fewer = λ is. (let less = ticks_fewer old.layer.layer p.ticked.layer m below tick is in
            omega (arith, behind, less));
      }

  -- what runs on waits as long
  waits_on : (d : Turn) → (p : Parts d)
      → R.running_unless d old.layer.own.running ≡ old.layer.own.running → wait m p.ticked.own ≡ wait m old.layer.own
  waits_on d p same = ap (wait m) p.tick.own_is
      ∙ (ap (λ x. one_if (has_waited (max (max old.layer.own.clock m) m) (acked_in x))) same
      ∙ wait_later m old.layer.own)

  taken : (d : Turn) → Parts d → IsTaken d below (is_wait_due old.layer.own m)
  taken d p = subst (λ t. IsTaken t below (is_wait_due old.layer.own m)) (sym p.tick.right)
      (turn_taken old.layer.own (max old.layer.own.clock m) below)

  by_turn : (d : Turn) → Ticked d → (p : Parts d) → Takes d p → work new now < work old now
  by_turn turn.Idle step p k =
      let less = idle_fewer m (at now old.own) token old.own.running (to_fetch old.own.observations) refl
      (sym step.right) in
      let begin = begin_is turn.Idle step in
      let is = k.now_due in
      let least = k.least in
      let waits = k.waits in
      let same = waits_on turn.Idle p refl in
      omega (arith, less, begin, is, least, waits, same)
  by_turn turn.Copied step p k =
      let begin = begin_is turn.Copied step in
      let is = k.now_due in
      let fewer = k.fewer (taken turn.Copied p) in
      let waits = k.waits in
      let same = waits_on turn.Copied p refl in
      omega (arith, begin, is, fewer, waits, same)
  by_turn (turn.End e) step p k = by (taken (turn.End e) p)
    where
      silent : AsksNothing (effect (turn.End e)).deed
      silent = fails_silently (λ t. true) (lapse e) (at now old.own) old.own.running

      over : wait m new.layer.own ≡ 0
      over = let a = k.waits in let b = ap (wait m) p.tick.own_is in omega (arith, a, b)

      begin : to_begin new.own ≤ to_begin old.own
      begin =
          let a = begin_is (turn.End e) step in
          let b = ap to_begin (silent_own m (effect (turn.End e)) token (effect (turn.End e)).deed silent) in
          let c = failed_least (λ t. true) (lapse e) (at now old.own) old.own.running in
          omega (arith, a, b, c)

      by : (is_step below ≡ true) ⊎ (is_wait_due old.layer.own m ≡ true) → work new now < work old now
      by (inl is) = let fewer = k.fewer is in let a = over in let b = begin in let n = k.now_due in
          omega (arith, fewer, a, b, n)
      by (inr due_now) = let least = k.least in let one = ap one_if due_now in let a = over in let b = begin in let n =
          k.now_due in omega (arith, least, one, a, b, n)

  pub work_falls : (d : Turn) → Ticked d → work new now < work old now
  work_falls d step = let p = parts d step in by_turn d step p (takes d step p)

-- .. as contracts say it

abbrev TickedSo : State → ℕ → ℕ → State → Bool → Type 0
TickedSo old now w new did =
    (below : L.Answer) × (d : Turn) × (sent : L.Answer) × (token : Result (List ℕ) AskRefusal) × (kept : Bool)
    × Step old (Ticks now w below d sent token kept did) new

pub ticks_fall : {Y : Type 0} (r : Result Bool Y) (old new : State) (now w : ℕ)
    → IfOk r (λ did. TickedSo old now w new did) → r ≡ Ok true → work new now < work old now
ticks_fall (Ok true) old new now w s e = work_falls old new now w s.0 s.2 s.3 s.4 s.1 s.5
ticks_fall _ old new now w s e = absurd (cc e)
