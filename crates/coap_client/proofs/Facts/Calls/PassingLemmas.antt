-- What a tick does to a client, by what waits (RFC 7252, section 4.7).
use Rattle.std.proofs.Common.{◌≡◌, ℕ, Bool, true, false, cond, not, ◌&&◌, Option, Some, None, List, [], ◌∷◌, map, drop}
use Rattle.std.proofs.Common.{slice_get, refl, ap, sym, ◌∙◌, subst, arith}
use Rattle.std.specs.Prelude.{is_some}
use Rattle.std.specs.Option.{option_map}
use Rattle.std.proofs.lemmas.List.{append-nil}
use Rattle.coap_exchange.specs.AskerLaw as X
use Rattle.coap_operations.specs.declared.queued.Queued.{Queued}
use Rattle.coap_operations.specs.declared.queued.Queued.TheVariants.{Starts, Cancels}
use Rattle.coap_operations.specs.Listed.{first_runs}
use Rattle.coap_client.specs.Trace.{Report}
use Rattle.coap_client.specs.Own.{Transfer, Observation, Operation, Fetching, Cancelling, Own, clocked}
use Rattle.coap_client.specs.Observations.{observation_of}
use Rattle.coap_client.specs.Effects.{Effect, stays, runs}
use Rattle.coap_client.specs.Events.{failed, idle, is_held, is_upload_op, starts}
use Rattle.coap_client.specs.Observing.{releases}
use Rattle.coap_client.specs.Steps.{asking, asks}
use Rattle.coap_client.specs.declared.client.operation.Waiting.{Waiting}
use Rattle.coap_client.specs.Places.{in_queue, in_running}
use Rattle.coap_client.specs.Object.Happens.{Apart, Comes, left}
use Rattle.coap_client.specs.Object.Shown.{shown_operation, shown_queued, shown_waiting}
use Rattle.coap_client.proofs.Facts.Calls.Happening.{AsksNothing, rests_happens, releases_quiet as releases_nothing}
use Rattle.coap_client.specs.Object.Starts.{may_start}

-- nothing is sent or reported
pub rest_comes : (t own : Own) (x : X.State) (e : Effect) (m word : ℕ) → e ≡ stays t → own ≡ asking None t
    → Comes x e m word (left own x)
rest_comes t own x e m word is own_is =
    subst (λ f. Comes x f m word (left own x)) (sym is)
    (record {
      asked = None;
      own = t;
      happens =
          rests_happens x (stays t) m word t refl (ap (λ rs. record t { reports = rs }) (sym (append-nil t.reports)));
      own_is = own_is;
    })

-- what ran is over, for which nothing is sent

pub fails_silently : (f : Transfer → Bool) (report : Report) (s : Own) (r : Option Operation)
    → AsksNothing (failed f report s r).deed
fails_silently f report s (Some (Cancelling n)) = releases_nothing (observation_of n s.observations)
fails_silently f report s _ = tt

-- what starts

pub starts_rests : (m : ℕ) (s : Own) (q : List Operation) → may_start m s q ≡ false
    → starts (clocked m s) m q ≡ stays (clocked m s)
starts_rests m s [] h = refl
starts_rests m s (op ∷ q) h = by (is_upload_op op && is_held s m) h
  where
    by : (b : Bool) → not b ≡ false → cond b (stays (clocked m s)) (runs op (record (clocked m s) { queue = q }))
        ≡ stays (clocked m s)
    by true e = refl
    by false e = absurd (cc e)

pub starts_first : (m : ℕ) (s : Own) (q : List Operation) (op : Operation) → may_start m s q ≡ true
    → slice_get q 0 ≡ Some op → starts (clocked m s) m q ≡ runs op (clocked m (record s { queue = drop 1 q }))
starts_first m s [] op h e = absurd (cc h)
starts_first m s (p ∷ q) op h e = by (is_upload_op p && is_held s m) h
  where
    by : (b : Bool) → not b ≡ true → cond b (stays (clocked m s)) (runs p (record (clocked m s) { queue = q }))
        ≡ runs op (clocked m (record s { queue = drop 1 (p ∷ q) }))
    by true e' = absurd (cc e')
    by false e' = ap (λ (o : Option Operation). elim o
        [ None ↦ runs p (record (clocked m s) { queue = q }) | Some r ↦ runs r (record (clocked m s) { queue = q }) ]) e

pub starts_ask : (m : ℕ) (s : Own) (q : List Operation) → may_start m s q ≡ true
    → true ≡ asks (starts (clocked m s) m q).deed
starts_ask m s [] h = absurd (cc h)
starts_ask m s (p ∷ q) h = by (is_upload_op p && is_held s m) h
  where
    by : (b : Bool) → not b ≡ true → true ≡ asks
        (cond b (stays (clocked m s)) (runs p (record (clocked m s) { queue = q }))).deed
    by true e = absurd (cc e)
    by false e = refl

-- where nothing was due

pub idle_stays : (s : Own) (m : ℕ) (r : Option Operation) (n : Option ℕ) → is_some r ≡ true → idle s m r n ≡ stays s
idle_stays s m None n h = absurd (cc h)
idle_stays s m (Some op) n h = refl

pub idle_fetches : (s : Own) (m : ℕ) (r : Option Operation) (k : Option ℕ) (n : ℕ) → r ≡ None → k ≡ Some n
    → idle s m r k ≡ runs (Fetching n) s
idle_fetches s m r k n none some = ap (λ o. idle s m o k) none ∙ ap (idle s m None) some

pub idle_starts : (s : Own) (m : ℕ) (r : Option Operation) (k : Option ℕ) → r ≡ None → k ≡ None
    → idle s m r k ≡ starts s m s.queue
idle_starts s m r k none nothing = ap (λ o. idle s m o k) none ∙ ap (idle s m None) nothing

pub shown_some : {X Y : Type 0} (f : X → Y) (o : Option X) → is_some o ≡ true → is_some (option_map f o) ≡ true
shown_some f None h = h
shown_some f (Some x) h = refl

pub shown_none : {X Y : Type 0} (f : X → Y) (o : Option X) → is_some o ≡ false → option_map f o ≡ None
shown_none f None h = refl
shown_none f (Some x) h = absurd (cc h)

-- the first of what waits

pub may_some : (m : ℕ) (s : Own) (q : List Operation) → may_start m s q ≡ true → (op : Operation)
    × (slice_get q 0 ≡ Some op)
may_some m s [] h = absurd (cc h)
may_some m s (op ∷ q) h = (op, refl)

module _ {A : Type 0} where
  pub first_runs_shown : (q : List (Queued (Waiting A)))
      → option_map shown_operation (first_runs q) ≡ slice_get (map shown_queued q) 0
  first_runs_shown [] = refl
  first_runs_shown (Starts w ∷ q) = refl
  first_runs_shown (Cancels n ∷ q) = refl

  pub drop_shown : (q : List (Queued (Waiting A))) → map shown_queued (drop 1 q) ≡ drop 1 (map shown_queued q)
  drop_shown [] = refl
  drop_shown (x ∷ q) = refl

  pub may_first : (m : ℕ) (s : Own) (q : List (Queued (Waiting A))) (w : Waiting A) → slice_get q 0 ≡ Some (Starts w)
      → may_start m s (map shown_queued q) ≡ not (is_upload_op (shown_waiting w) && is_held s m)
  may_first m s [] w e = absurd (cc e)
  may_first m s (x ∷ q) w e =
      let is : x ≡ Starts w = cc e in ap (λ y. may_start m s (map shown_queued (y ∷ q))) is

  pub may_cancel : (m : ℕ) (s : Own) (q : List (Queued (Waiting A))) (n : ℕ) → slice_get q 0 ≡ Some (Cancels n)
      → true ≡ may_start m s (map shown_queued q)
  may_cancel m s [] n e = absurd (cc e)
  may_cancel m s (x ∷ q) n e =
      let is : x ≡ Cancels n = cc e in ap (λ y. may_start m s (map shown_queued (y ∷ q))) (sym is)

  pub may_nothing : (m : ℕ) (s : Own) (q : List (Queued (Waiting A))) → slice_get q 0 ≡ None
      → false ≡ may_start m s (map shown_queued q)
  may_nothing m s [] e = refl
  may_nothing m s (x ∷ q) e = absurd (cc e)

  pub first_shown : (q : List (Queued (Waiting A))) (x : Queued (Waiting A)) (op : Operation) → slice_get q 0 ≡ Some x
      → slice_get (map shown_queued q) 0 ≡ Some op → op ≡ shown_queued x
  first_shown [] x op e h = absurd (cc e)
  first_shown (y ∷ q) x op e h = let is : y ≡ x = cc e in let here : shown_queued y ≡ op = cc h in
      sym here ∙ ap shown_queued is

  -- the first of what waits runs, where nothing does: each number is where it was, once
  pub started_apart : (s : Own) (q : List (Queued (Waiting A))) → s.queue ≡ map shown_queued q → s.running ≡ None
      → Apart s
      → Apart (record s { queue = map shown_queued (drop 1 q); running = option_map shown_operation (first_runs q) })
  started_apart s [] queue none apart n =
      let a = apart n in let b = ap (in_queue n) queue in let c = ap (in_running n) none in omega (arith, a, b, c)
  started_apart s (Starts w ∷ q) queue none apart n =
      let a = apart n in let b = ap (in_queue n) queue in let c = ap (in_running n) none in omega (arith, a, b, c)
  started_apart s (Cancels k ∷ q) queue none apart n =
      let a = apart n in let b = ap (in_queue n) queue in let c = ap (in_running n) none in omega (arith, a, b, c)
