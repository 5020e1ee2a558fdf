-- What the keys of a list find.
use Rattle.std.proofs.Common.{◌≡◌, ◌≤◌, ℕ, suc, ◌+◌, Bool, true, false, cond, not, ◌||◌, Option, Some, None, List, []}
use Rattle.std.proofs.Common.{◌∷◌, ◌++◌}
use Rattle.std.proofs.Common.{filter, length, option_map, zero, slice_get, refl, sym, ap}
use Rattle.std.proofs.Common.{◌∙◌, subst, inl, inr, arith}
use Rattle.std.specs.Prelude.{◌==◌}
use Rattle.std.specs.List.{list_any}
use Rattle.std.proofs.lemmas.Bool.{cases_eq}
use Rattle.coap_operations.specs.declared.entry.Entry.{Entry}
use Rattle.coap_operations.specs.declared.entry.Entry.TheVariants.{Operation, Observation}
use Rattle.coap_operations.specs.declared.queued.Queued.{Queued}
use Rattle.coap_operations.specs.declared.queued.Queued.TheVariants.{Starts, Cancels}
use Rattle.coap_operations.specs.declared.running.Running.{Running}
use Rattle.coap_operations.specs.declared.running.Running.TheVariants.{Started, Fetching, Cancelling, Dropped}
use Rattle.coap_operations.specs.Listed.{is_cancel}
use Rattle.coap_operations.specs.Keys.{EachOnce, hit, in_live, in_queue, in_running, is_cancel_key}
use Rattle.coap_operations.specs.Keys.{live_first, live_of, observation_in, observations, operation_in, operations}
use Rattle.coap_operations.specs.Keys.{queue_of, running_of, started, waits_first}
use Rattle.coap_operations.proofs.KeyCounts.{apart, hit_other, hit_same, in_queue_append, in_queue_kept}

module _ {W O : Type 0} where
  -- every other key finds what it found
  abbrev pub SaveAt : ℕ → (ℕ → Option (Entry W O)) → (ℕ → Option (Entry W O)) → Type 0
  SaveAt key to at = (k : ℕ) → (k ≡ key → ⊥) → to k ≡ at k

  -- what a key finds in a place is there

  operation_there : (e : Option (Entry W O)) → 1 ≤ operations e → (w : W) × (e ≡ Some (Operation w))
  operation_there None h = absurd (omega (arith, h))
  operation_there (Some (Operation w)) h = (w, refl)
  operation_there (Some (Observation o)) h = absurd (omega (arith, h))

  pub observation_there : (e : Option (Entry W O)) → 1 ≤ observations e → (o : O) × (e ≡ Some (Observation o))
  observation_there None h = absurd (omega (arith, h))
  observation_there (Some (Operation w)) h = absurd (omega (arith, h))
  observation_there (Some (Observation o)) h = (o, refl)

  abbrev Waits : (ℕ → Option (Entry W O)) → List (Queued ℕ) → Type 0
  Waits at q = (k : ℕ) → in_queue k q ≤ operations (at k)

  abbrev pub Lives : (ℕ → Option (Entry W O)) → List ℕ → Type 0
  Lives at l = (k : ℕ) → in_live k l ≤ observations (at k)

  waiting : (at : ℕ → Option (Entry W O)) (q : List (Queued ℕ)) (r : Option (Running ℕ)) (l : List ℕ)
      → EachOnce at q r l → Waits at q
  waiting at q r l once k = let a = once.operation k in omega (arith, a)

  pub living : (at : ℕ → Option (Entry W O)) (q : List (Queued ℕ)) (r : Option (Running ℕ)) (l : List ℕ)
      → EachOnce at q r l
      → Lives at l
  living at q r l once k = let a = once.observation k in omega (arith, a)

  waits_first_is : (at : ℕ → Option (Entry W O)) (key : ℕ) (q : List (Queued ℕ)) → Waits at (Starts key ∷ q) → (w : W)
      × (at key ≡ Some (Operation w))
  waits_first_is at key q h = operation_there (at key) (let a = h key in let b = hit_same key in omega (arith, a, b))

  waits_behind : (at : ℕ → Option (Entry W O)) (key : ℕ) (q : List (Queued ℕ)) → Waits at (Starts key ∷ q) → Waits at q
  waits_behind at key q h k = let a = h k in omega (arith, a)

  pub lives_first_is : (at : ℕ → Option (Entry W O)) (key : ℕ) (l : List ℕ) → Lives at (key ∷ l) → (o : O)
      × (at key ≡ Some (Observation o))
  lives_first_is at key l h = observation_there (at key) (let a = h key in let b = hit_same key in omega (arith, a, b))

  pub lives_behind : (at : ℕ → Option (Entry W O)) (key : ℕ) (l : List ℕ) → Lives at (key ∷ l) → Lives at l
  lives_behind at key l h k = let a = h k in omega (arith, a)

  queue_len : (at : ℕ → Option (Entry W O)) (q : List (Queued ℕ)) → Waits at q → length q ≡ length (queue_of at q)
  queue_len at [] h = refl
  queue_len at (Cancels n ∷ q) h = ap suc (queue_len at q h)
  queue_len at (Starts key ∷ q) h =
      ap suc (queue_len at q (waits_behind at key q h))
      ∙ ap (λ e. length (waits_first e (queue_of at q))) (sym (waits_first_is at key q h).1)

  pub waiting_len : (at : ℕ → Option (Entry W O)) (q : List (Queued ℕ)) (r : Option (Running ℕ)) (l : List ℕ)
      → EachOnce at q r l → length q ≡ length (queue_of at q)
  waiting_len at q r l once = queue_len at q (waiting at q r l once)

  live_len : (at : ℕ → Option (Entry W O)) (l : List ℕ) → Lives at l → length l ≡ length (live_of at l)
  live_len at [] h = refl
  live_len at (key ∷ l) h =
      ap suc (live_len at l (lives_behind at key l h))
      ∙ ap (λ e. length (live_first e (live_of at l))) (sym (lives_first_is at key l h).1)

  pub living_len : (at : ℕ → Option (Entry W O)) (q : List (Queued ℕ)) (r : Option (Running ℕ)) (l : List ℕ)
      → EachOnce at q r l → length l ≡ length (live_of at l)
  living_len at q r l once = live_len at l (living at q r l once)

  -- one list of keys behind another

  pub queue_append : (at : ℕ → Option (Entry W O)) (q p : List (Queued ℕ))
      → queue_of at (q ++ p) ≡ queue_of at q ++ queue_of at p
  queue_append at [] p = refl
  queue_append at (Cancels n ∷ q) p = ap (λ l. Cancels n ∷ l) (queue_append at q p)
  queue_append at (Starts key ∷ q) p = by (at key) (queue_append at q p)
    where
      by : (e : Option (Entry W O)) → queue_of at (q ++ p) ≡ queue_of at q ++ queue_of at p
          → waits_first e (queue_of at (q ++ p)) ≡ waits_first e (queue_of at q) ++ queue_of at p
      by None h = h
      by (Some (Operation w)) h = ap (λ l. Starts w ∷ l) h
      by (Some (Observation o)) h = h

  pub live_append : (at : ℕ → Option (Entry W O)) (l m : List ℕ) → live_of at (l ++ m) ≡ live_of at l ++ live_of at m
  live_append at [] m = refl
  live_append at (key ∷ l) m = by (at key) (live_append at l m)
    where
      by : (e : Option (Entry W O)) → live_of at (l ++ m) ≡ live_of at l ++ live_of at m
          → live_first e (live_of at (l ++ m)) ≡ live_first e (live_of at l) ++ live_of at m
      by None h = h
      by (Some (Operation w)) h = h
      by (Some (Observation o)) h = ap (λ k. o ∷ k) h

  -- where a key is not there, what it finds does not count

  pub queue_frame : (at to : ℕ → Option (Entry W O)) (key : ℕ) → SaveAt key to at → (q : List (Queued ℕ))
      → in_queue key q ≡ 0 → queue_of to q ≡ queue_of at q
  queue_frame at to key save [] h = refl
  queue_frame at to key save (Cancels n ∷ q) h = ap (λ l. Cancels n ∷ l) (queue_frame at to key save q h)
  queue_frame at to key save (Starts j ∷ q) h =
      ap (λ e. waits_first e (queue_of to q)) (save j (apart j key (in_queue key q) h))
      ∙ ap (λ l. waits_first (at j) l) (queue_frame at to key save q (omega (arith, h)))

  pub running_frame : (at to : ℕ → Option (Entry W O)) (key : ℕ) → SaveAt key to at → (r : Option (Running ℕ))
      → in_running key r ≡ 0 → running_of to r ≡ running_of at r
  running_frame at to key save None h = refl
  running_frame at to key save (Some (Started j)) h = ap started (save j (apart j key 0 (omega (arith, h))))
  running_frame at to key save (Some (Fetching n)) h = refl
  running_frame at to key save (Some (Cancelling n)) h = refl
  running_frame at to key save (Some Dropped) h = refl

  pub live_frame : (at to : ℕ → Option (Entry W O)) (key : ℕ) → SaveAt key to at → (l : List ℕ) → in_live key l ≡ 0
      → live_of to l ≡ live_of at l
  live_frame at to key save [] h = refl
  live_frame at to key save (j ∷ l) h =
      ap (λ e. live_first e (live_of to l)) (save j (apart j key (in_live key l) h))
      ∙ ap (λ m. live_first (at j) m) (live_frame at to key save l (omega (arith, h)))

  -- how many a key finds, where one entry changes

  pub same_count : (f : Option (Entry W O) → ℕ) (at to : ℕ → Option (Entry W O)) (key : ℕ) → SaveAt key to at
      → f (to key) ≡ f (at key) → (k : ℕ) → f (to k) ≡ f (at k)
  same_count f at to key save same k =
      elim (cases_eq k key) [
        | inl is ↦ subst (λ x. f (to x) ≡ f (at x)) (sym is) same
        | inr differs ↦ ap f (save k differs)
      ]

  pub more_count : (f : Option (Entry W O) → ℕ) (at to : ℕ → Option (Entry W O)) (key : ℕ) → SaveAt key to at
      → f (at key) ≡ 0 → f (to key) ≡ 1 → (k : ℕ) → f (to k) ≡ f (at k) + hit key k
  more_count f at to key save none one k =
      elim (cases_eq k key) [
        | inl is ↦ subst (λ x. f (to x) ≡ f (at x) + hit key x) (sym is)
            (let h = hit_same key in omega (arith, h, none, one))
        | inr differs ↦ (let h = hit_other key k (λ e. differs (sym e)) in let s = ap f (save k differs) in
            omega (arith, h, s))
      ]

  -- nothing runs where nothing is seen to
  pub none_runs : (at : ℕ → Option (Entry W O)) (q : List (Queued ℕ)) (r : Option (Running ℕ)) (l : List ℕ)
      → EachOnce at q r l → running_of at r ≡ None → r ≡ None
  none_runs at q None l once h = refl
  none_runs at q (Some (Started key)) l once h =
      let there = operation_there (at key) (let a = once.operation key in let b = hit_same key in omega (arith, a, b))
      in
      let no : started (at key) ≡ Some (Started there.0) = ap started there.1 in
      absurd (cc)
  none_runs at q (Some (Fetching n)) l once h = absurd (cc h)
  none_runs at q (Some (Cancelling n)) l once h = absurd (cc h)
  none_runs at q (Some Dropped) l once h = absurd (cc h)

  -- the cancels of an observation

  pub has_queued : (at : ℕ → Option (Entry W O)) (n : ℕ) (q : List (Queued ℕ))
      → list_any (is_cancel_key n) q ≡ list_any (is_cancel n) (queue_of at q)
  has_queued at n [] = refl
  has_queued at n (Cancels k ∷ q) = ap (λ b. (k == n) || b) (has_queued at n q)
  has_queued at n (Starts key ∷ q) = by (at key) (has_queued at n q)
    where
      by : (e : Option (Entry W O)) → list_any (is_cancel_key n) q ≡ list_any (is_cancel n) (queue_of at q)
          → list_any (is_cancel_key n) q ≡ list_any (is_cancel n) (waits_first e (queue_of at q))
      by None h = h
      by (Some (Operation w)) h = h
      by (Some (Observation o)) h = h

  pub drop_queued : (at : ℕ → Option (Entry W O)) (n : ℕ) (q : List (Queued ℕ))
      → queue_of at (filter (λ x. not (is_cancel_key n x)) q) ≡ filter (λ x. not (is_cancel n x)) (queue_of at q)
  drop_queued at n [] = refl
  drop_queued at n (Cancels k ∷ q) = by (k == n) (drop_queued at n q)
    where
      by : (b : Bool) → queue_of at (filter (λ x. not (is_cancel_key n x)) q)
          ≡ filter (λ x. not (is_cancel n x)) (queue_of at q)
          → queue_of at (cond (not b) (Cancels k ∷ filter (λ x. not (is_cancel_key n x)) q)
          (filter (λ x. not (is_cancel_key n x)) q))
          ≡ cond (not b) (Cancels k ∷ filter (λ x. not (is_cancel n x)) (queue_of at q))
          (filter (λ x. not (is_cancel n x)) (queue_of at q))
      by true h = h
      by false h = ap (λ l. Cancels k ∷ l) h
  drop_queued at n (Starts key ∷ q) = by (at key) (drop_queued at n q)
    where
      by : (e : Option (Entry W O)) → queue_of at (filter (λ x. not (is_cancel_key n x)) q)
          ≡ filter (λ x. not (is_cancel n x)) (queue_of at q)
          → waits_first e (queue_of at (filter (λ x. not (is_cancel_key n x)) q))
          ≡ filter (λ x. not (is_cancel n x)) (waits_first e (queue_of at q))
      by None h = h
      by (Some (Operation w)) h = ap (λ l. Starts w ∷ l) h
      by (Some (Observation o)) h = h

  pub dropped_once : (at : ℕ → Option (Entry W O)) (n : ℕ) (q : List (Queued ℕ)) (r : Option (Running ℕ)) (l : List ℕ)
      → EachOnce at q r l → EachOnce at (filter (λ x. not (is_cancel_key n x)) q) r l
  dropped_once at n q r l once =
      record {
        operation = λ k. ap (λ m. m + in_running k r) (in_queue_kept k n q) ∙ once.operation k;
        observation = once.observation;
      }

  pub cancel_once : (at : ℕ → Option (Entry W O)) (n : ℕ) (q : List (Queued ℕ)) (r : Option (Running ℕ)) (l : List ℕ)
      → EachOnce at q r l → EachOnce at (q ++ Cancels n ∷ []) r l
  cancel_once at n q r l once =
      record {
        operation = λ k. let a = in_queue_append k q (Cancels n ∷ []) in let b = once.operation k in
            omega (arith, a, b);
        observation = once.observation;
      }

  pub cancel_queued : (at : ℕ → Option (Entry W O)) (n : ℕ) (q : List (Queued ℕ))
      → queue_of at (q ++ Cancels n ∷ []) ≡ queue_of at q ++ Cancels n ∷ []
  cancel_queued at n q = queue_append at q (Cancels n ∷ [])

  -- what a place finds

  abbrev pub waits_in : Option (Entry W O) → Option (Queued W)
  waits_in e = option_map (λ w. Starts w) (operation_in e)

  abbrev pub look : (ℕ → Option (Entry W O)) → Option (Queued ℕ) → Option (Queued W)
  look at None = None
  look at (Some (Starts key)) = waits_in (at key)
  look at (Some (Cancels n)) = Some (Cancels n)

  queue_at : (at : ℕ → Option (Entry W O)) (q : List (Queued ℕ)) → Waits at q → (p : ℕ)
      → slice_get (queue_of at q) p ≡ look at (slice_get q p)
  queue_at at [] h p = refl
  queue_at at (Cancels n ∷ q) h zero = refl
  queue_at at (Cancels n ∷ q) h (suc p) = queue_at at q h p
  queue_at at (Starts key ∷ q) h zero =
      let there = waits_first_is at key q h in
      ap (λ e. slice_get (waits_first e (queue_of at q)) 0) there.1 ∙ sym (ap waits_in there.1)
  queue_at at (Starts key ∷ q) h (suc p) =
      ap (λ e. slice_get (waits_first e (queue_of at q)) (suc p)) (waits_first_is at key q h).1
      ∙ queue_at at q (waits_behind at key q h) p

  pub waiting_at : (at : ℕ → Option (Entry W O)) (q : List (Queued ℕ)) (r : Option (Running ℕ)) (l : List ℕ)
      → EachOnce at q r l → (p : ℕ) → slice_get (queue_of at q) p ≡ look at (slice_get q p)
  waiting_at at q r l once = queue_at at q (waiting at q r l once)

  abbrev pub look_live : (ℕ → Option (Entry W O)) → Option ℕ → Option O
  look_live at None = None
  look_live at (Some key) = observation_in (at key)

  live_at : (at : ℕ → Option (Entry W O)) (l : List ℕ) → Lives at l → (p : ℕ)
      → slice_get (live_of at l) p ≡ look_live at (slice_get l p)
  live_at at [] h p = refl
  live_at at (key ∷ l) h zero = let there = lives_first_is at key l h in
      ap (λ e. slice_get (live_first e (live_of at l)) 0) there.1 ∙ sym (ap observation_in there.1)
  live_at at (key ∷ l) h (suc p) = ap (λ e. slice_get (live_first e (live_of at l)) (suc p))
      (lives_first_is at key l h).1 ∙ live_at at l (lives_behind at key l h) p

  pub living_at : (at : ℕ → Option (Entry W O)) (q : List (Queued ℕ)) (r : Option (Running ℕ)) (l : List ℕ)
      → EachOnce at q r l → (p : ℕ) → slice_get (live_of at l) p ≡ look_live at (slice_get l p)
  living_at at q r l once = live_at at l (living at q r l once)
