-- The lists of a client's parts, as they are seen.
use Rattle.std.proofs.Common.{◌≡◌, ◌≤◌, ℕ, ◌+◌, Bool, true, false, cond, not, Option, Some, None, List, [], ◌∷◌, ◌++◌}
use Rattle.std.proofs.Common.{map, ap, sym, ◌∙◌, refl, arith}
use Rattle.std.specs.Prelude.{filter, is_some, ◌==◌}
use Rattle.std.specs.Option.{option_map}
use Rattle.coap_block.specs.declared.fetch_progress.Asked.{Asked}
use Rattle.coap_exchange.specs.AskerTrace as E
use Rattle.coap_client.specs.Own.{Operation, Fetching, Dropped, Notified, Observation, Own}
use Rattle.coap_client.specs.Observations.{dropped, is_cancel_of, observation_of, observed_path, over, with_rest}
use Rattle.coap_client.specs.Observing.{releases}
use Rattle.coap_client.specs.Requests.{block2_option, get, message_of, path_options}
use Rattle.coap_client.specs.Places.{hit, in_observations}
use Rattle.coap_operations.specs.Listed.{Listed, is_cancel, without_fetch}
use Rattle.coap_operations.specs.declared.running.Running.{Running}
use Rattle.coap_operations.specs.declared.running.Running.TheVariants as running_of
use Rattle.coap_operations.specs.declared.queued.Queued.{Queued}
use Rattle.coap_operations.specs.declared.queued.Queued.TheVariants.{Starts, Cancels}
use Rattle.coap_client.specs.declared.client.held.Held.{Held}
use Rattle.coap_client.specs.declared.client.operation.Waiting as W
use Rattle.coap_client.specs.declared.client.operation.Waiting.TheVariants as waiting
use Rattle.coap_client.specs.declared.client.operation.Observation as B
use Rattle.coap_client.specs.Object.Happens.{Apart, releasing, resting, running}
use Rattle.coap_client.specs.Object.Held.{own_of}
use Rattle.coap_client.specs.Object.Shown.{shown_observation, shown_operation, shown_queued}

same_cancel : {A : Type 0} (number : ℕ) (q : Queued (W.Waiting A))
    → is_cancel number q ≡ is_cancel_of number (shown_queued q)
same_cancel number (Starts (waiting.Calling n c)) = refl
same_cancel number _ = refl

pub queue_over : {A : Type 0} (number : ℕ) (qs : List (Queued (W.Waiting A)))
    → map shown_queued (filter (λ q. not (is_cancel number q)) qs)
    ≡ filter (λ op. not (is_cancel_of number op)) (map shown_queued qs)
queue_over number [] = refl
queue_over number (q ∷ qs) =
    by (queue_over number qs) (not (is_cancel number q))
    ∙ ap (λ b. cond (not b) (shown_queued q ∷ filter (λ op. not (is_cancel_of number op)) (map shown_queued qs))
    (filter (λ op. not (is_cancel_of number op)) (map shown_queued qs))) (same_cancel number q)
  where
    by : map shown_queued (filter (λ q. not (is_cancel number q)) qs)
        ≡ filter (λ op. not (is_cancel_of number op)) (map shown_queued qs) → (b : Bool)
        → map shown_queued (cond b (q ∷ filter (λ q. not (is_cancel number q)) qs)
        (filter (λ q. not (is_cancel number q)) qs))
        ≡ cond b (shown_queued q ∷ filter (λ op. not (is_cancel_of number op)) (map shown_queued qs))
        (filter (λ op. not (is_cancel_of number op)) (map shown_queued qs))
    by ih true = ap (λ l. shown_queued q ∷ l) ih
    by ih false = ih

-- where no observation has the number, nothing is set
pub none_set : (number : ℕ) (rest : Option Notified) (os : List Observation) → in_observations number os ≤ 0
    → with_rest number rest os ≡ os
none_set number rest [] h = refl
none_set number rest (o ∷ os) h = by (none_set number rest os) (o.number == number) h
  where
    by : (in_observations number os ≤ 0 → with_rest number rest os ≡ os) → (b : Bool)
        → cond b 1 0 + in_observations number os ≤ 0
        → cond b (record o { rest = rest }) o ∷ with_rest number rest os ≡ o ∷ os
    by ih true h = absurd (omega (arith, h))
    by ih false h = ap (λ l. o ∷ l) (ih (omega (arith, h)))

-- what is set is found

pub set_found : (number : ℕ) (r : Option Notified) (os : List Observation)
    → observation_of number (with_rest number r os)
    ≡ option_map (λ (o : Observation). record o { rest = r }) (observation_of number os)
set_found number r [] = refl
set_found number r (o ∷ os) = by (set_found number r os) (o.number == number) refl
  where
    by : observation_of number (with_rest number r os)
        ≡ option_map (λ (p : Observation). record p { rest = r }) (observation_of number os) → (b : Bool)
        → (o.number == number) ≡ b
        → cond ((cond b (record o { rest = r }) o).number == number) (Some (cond b (record o { rest = r }) o))
        (observation_of number (with_rest number r os))
        ≡ option_map (λ (p : Observation). record p { rest = r }) (cond b (Some o) (observation_of number os))
    by ih true e = ap (λ c. cond c (Some (record o { rest = r })) (observation_of number (with_rest number r os))) e
    by ih false e = ap (λ c. cond c (Some o) (observation_of number (with_rest number r os))) e ∙ ih

abbrev path_in : Option Observation → List (List ℕ)
path_in o = elim o [ None ↦ [] | Some p ↦ p.path ]

abbrev pub rest_in : Option Observation → Option Notified
rest_in o = elim o [ None ↦ None | Some p ↦ p.rest ]

abbrev asked_in : Option Notified → Option Asked
asked_in n = elim n [ None ↦ None | Some q ↦ q.fetch.asked ]

abbrev fetch_by : Option Observation → E.Request
fetch_by o = get None (path_options (path_in o) ++ block2_option (asked_in (rest_in o)))

fetched_by : (n : Notified) (o : Option Observation) → is_some o ≡ true
    → get None (path_options (path_in o) ++ block2_option n.fetch.asked)
    ≡ fetch_by (option_map (λ (p : Observation). record p { rest = Some n }) o)
fetched_by n None h = absurd (cc h)
fetched_by n (Some p) h = refl

pub fetch_message : (number : ℕ) (n : Notified) (os : List Observation) → is_some (observation_of number os) ≡ true
    → get None (path_options (observed_path number os) ++ block2_option n.fetch.asked)
    ≡ message_of (with_rest number (Some n) os) (Fetching number)
fetch_message number n os there = fetched_by n (observation_of number os) there
    ∙ ap fetch_by (sym (set_found number (Some n) os))

-- one observation has a number, at most

pub one_observation : (s : Own) (n : ℕ) → Apart s → in_observations n s.observations ≤ 1
one_observation s n apart = let a = apart n in omega (arith, a)

set_number : (number n : ℕ) (r : Option Notified) (os : List Observation)
    → in_observations n (with_rest number r os) ≡ in_observations n os
set_number number n r [] = refl
set_number number n r (o ∷ os) = by (o.number == number) (set_number number n r os)
  where
    by : (b : Bool) → in_observations n (with_rest number r os) ≡ in_observations n os
        → hit (cond b (record o { rest = r }) o).number n + in_observations n (with_rest number r os)
        ≡ hit o.number n + in_observations n os
    by true ih = ap (λ k. hit o.number n + k) ih
    by false ih = ap (λ k. hit o.number n + k) ih

pub set_one : (number n : ℕ) (r : Option Notified) (os : List Observation) → in_observations n os ≤ 1
    → in_observations n (with_rest number r os) ≤ 1
set_one number n r os h = let a = set_number number n r os in omega (arith, a, h)

pub resumed_apart : (s : Own) (number : ℕ) (r : Option Notified) → Apart s
    → Apart (running (Fetching number) (resting number r s))
resumed_apart s number r apart n = let a = apart n in let b = set_number number n r s.observations in
    omega (arith, a, b)

-- setting twice is setting once
pub set_twice : (number : ℕ) (a b : Option Notified) (os : List Observation)
    → with_rest number a (with_rest number b os) ≡ with_rest number a os
set_twice number a b [] = refl
set_twice number a b (o ∷ os) = by (set_twice number a b os) (o.number == number) refl
  where
    by : with_rest number a (with_rest number b os) ≡ with_rest number a os → (c : Bool) → (o.number == number) ≡ c
        → cond ((cond c (record o { rest = b }) o).number == number)
        (record (cond c (record o { rest = b }) o) { rest = a }) (cond c (record o { rest = b }) o)
        ∷ with_rest number a (with_rest number b os)
        ≡ cond c (record o { rest = a }) o ∷ with_rest number a os
    by ih true e = ap (λ c. cond c (record o { rest = a }) (record o { rest = b })
        ∷ with_rest number a (with_rest number b os)) e ∙ ap (λ l. record o { rest = a } ∷ l) ih
    by ih false e = ap (λ c. cond c (record o { rest = a }) o ∷ with_rest number a (with_rest number b os)) e
        ∙ ap (λ l. o ∷ l) ih

pub rested_apart : (s : Own) (number : ℕ) (r : Option Notified) → Apart s → Apart (resting number r s)
rested_apart s number r apart n = let a = apart n in let b = set_number number n r s.observations in omega (arith, a, b)

-- an observation that is over

pub over_is : (number : ℕ) (s : Own) (queue : List Operation) (running : Option Operation) (os : List Observation)
    → queue ≡ filter (λ op. not (is_cancel_of number op)) s.queue → running ≡ dropped number s.running
    → os ≡ filter (λ o. not (o.number == number)) s.observations
    → record s { queue = queue; running = running; observations = os } ≡ over number s
over_is number s queue running os a b c =
    ap (λ q. record s { queue = q; running = running; observations = os }) a
    ∙ (ap (λ r. record s {
      queue = filter (λ op. not (is_cancel_of number op)) s.queue;
      running = r;
      observations =
          os;
    }) b
    ∙ ap (λ l. record s {
      queue = filter (λ op. not (is_cancel_of number op)) s.queue;
      running =
          dropped number s.running;
      observations = l;
    }) c)

pub releasing_is : (o : Option Observation) → releasing (option_map (λ (p : Observation). p.token) o) ≡ releases o
releasing_is None = refl
releasing_is (Some o) = refl

pub seen_cancels : {A : Type 0} (number : ℕ) (old new : List (Queued (W.Waiting A)))
    → new ≡ filter (λ q. not (is_cancel number q)) old
    → map shown_queued new ≡ filter (λ op. not (is_cancel_of number op)) (map shown_queued old)
seen_cancels number old new is = ap (λ l. map shown_queued l) is ∙ queue_over number old

-- what is fetched no longer counts
pub dropped_shown : {A : Type 0} (number : ℕ) (r : Option (Running (W.Waiting A)))
    → dropped number (option_map shown_operation r) ≡ option_map shown_operation (without_fetch number r)
dropped_shown number None = refl
dropped_shown number (Some (running_of.Started (waiting.Calling n c))) = refl
dropped_shown number (Some (running_of.Started (waiting.Registering n path))) = refl
dropped_shown {A} number (Some (running_of.Fetching n)) = by (n == number)
  where
    by : (b : Bool) → cond b (Some Dropped) (Some (Fetching n))
        ≡ option_map (shown_operation {A = A}) (cond b (Some running_of.Dropped) (Some (running_of.Fetching n)))
    by true = refl
    by false = refl
dropped_shown number (Some (running_of.Cancelling n)) = refl
dropped_shown number (Some running_of.Dropped) = refl

-- only the live observations are others
module _ {A : Type 0} (h : Held A) (v : Listed (W.Waiting A) (B.Observation A))
    (same : v ≡ record h.operations { live = v.live }) where
  pub taken_own : own_of (record h { operations = v })
      ≡ record (own_of h) { observations = map shown_observation v.live }
  taken_own = ap (λ o. own_of (record h { operations = o })) same

  -- .. and nothing runs
  pub idle_own : h.operations.running ≡ None → own_of (record h { operations = v })
      ≡ record (own_of h) { running = None; observations = map shown_observation v.live }
  idle_own idle = taken_own ∙ ap (λ r. record (own_of h)
      { running = option_map shown_operation r; observations = map shown_observation v.live }) idle

  -- .. and a fetch runs again
  pub fetched_own : (number : ℕ) (set new : Listed (W.Waiting A) (B.Observation A)) → set ≡ record v { live = set.live }
      → new ≡ record set { running = Some (running_of.Fetching number) }
      → own_of (record h { operations = new })
      ≡ record (own_of h) { running = Some (Fetching number); observations = map shown_observation set.live }
  fetched_own number set new set_is new_is =
      ap (λ o. own_of (record h { operations = o })) new_is
      ∙ (ap (λ (o : Listed (W.Waiting A) (B.Observation A)). own_of
      (record h { operations = record o { running = Some (running_of.Fetching number) } })) set_is
      ∙ ap (λ (o : Listed (W.Waiting A) (B.Observation A)). own_of
      (record h { operations = record o { live = set.live; running = Some (running_of.Fetching number) } })) same)
