-- A fetch that is wanted starts before what waits, the one of the lowest number first.
use Rattle.std.proofs.Common.{◌≡◌, ◌≤◌, ◌<◌, ℕ, max, Bool, true, false, cond, ◌&&◌, Option, Some, None, is_some, List}
use Rattle.std.proofs.Common.{[], ◌∷◌, refl, ap, sym, subst, ◌∙◌, Result, arith}
use Rattle.std.specs.Prelude.{◌==◌}
use Rattle.coap_types.specs.declared.endpoint.Endpoint.{Endpoint}
use Rattle.coap_layer.specs.Trace as L
use Rattle.coap_layer.specs.declared.setup.Setup.{Setup}
use Rattle.coap_block.specs.Sizes.{Sizes}
use Rattle.coap_exchange.specs.declared.asker.AskRefusal.{AskRefusal}
use Rattle.coap_exchange.specs.declared.asker.Turn.{Turn}
use Rattle.coap_exchange.specs.declared.asker.Turn.TheVariants as turn_of
use Rattle.coap_client.specs.Trace.{Call, Calls, Observes, Cancels, Forgets, Feeds, Ticks, NextOut, NextReport, Asked}
use Rattle.coap_client.specs.Own.{Operation, Fetching, Notified, Observation, Own}
use Rattle.coap_client.specs.Observations.{observation_of, rest_of, to_fetch}
use Rattle.coap_client.specs.Effects.{stays, runs}
use Rattle.coap_client.specs.Events.{idle, is_held, is_upload_op, passes, starts}
use Rattle.coap_client.specs.Reports.{lapse}
use Rattle.coap_client.specs.Deeds.{at}
use Rattle.coap_client.specs.Law.{ClientLaw, own_of}
use Rattle.coap_client_laws.specs.Follows.Taken.{asked_for, is_turn}
use Rattle.coap_client_laws.specs.Follows.Taken as taken
use Rattle.coap_client_laws.specs.Follows.Fetches.{IsWanted, turn_in, StartsLowest, FetchesFirst, AllFetchFirst}
use Rattle.coap_client_laws.proofs.Observing.Ascending.{AreAbove, Ascends, ascends}
use Rattle.coap_client.proofs.Facts.Places.PlaceLemmas.{same_number, number_self}
use Rattle.coap_client.proofs.Facts.Places.Once.{known}
use Rattle.coap_client.proofs.Facts.Places.PlaceEffects.{Waits, AllWait}
use Rattle.coap_client_laws.proofs.Queueing.Taken.{asks_op, asked_is, failed_none}
use Rattle.coap_client.proofs.Facts.Turning.Leading.{client_back}

-- the first observation for which something is to be fetched has the lowest number of these

abbrev rest_in : Option Observation → Option Notified
rest_in found = elim found [ None ↦ None | Some o ↦ o.rest ]

found_above : (n k : ℕ) (os : List Observation) (r : Notified) → AreAbove n os → rest_of k os ≡ Some r → n < k
found_above n k [] r h is = absurd (cc is)
found_above n k (o ∷ os) r h is = by (o.number == k) refl is (found_above n k os r h.1)
  where
    by : (b : Bool) → (o.number == k) ≡ b → rest_in (cond b (Some o) (observation_of k os)) ≡ Some r
        → (rest_of k os ≡ Some r → n < k) → n < k
    by true e is ih = subst (λ i. n < i) (same_number o.number k e) h.0
    by false e is ih = ih is

abbrev fetch_by : Observation → List Observation → Option Notified → Option ℕ
fetch_by o os z = cond (is_some z) (Some o.number) (to_fetch os)

record First (os : List Observation) (number : ℕ) : Type 0 where
  first : ℕ
  is : to_fetch os ≡ Some first
  rest : Notified
  rest_is : rest_of first os ≡ Some rest
  lowest : first ≤ number

first_of : (os : List Observation) (number : ℕ) (r : Notified) → Ascends os → rest_of number os ≡ Some r
    → First os number
first_of [] number r h is = absurd (cc is)
first_of (o ∷ os) number r h is = by o.rest refl (first_of os number r h.1)
  where
    here : (q : Notified) → o.rest ≡ Some q → o.number ≤ number → First (o ∷ os) number
    here q e low = record {
      first = o.number;
      is = ap (fetch_by o os) e;
      rest = q;
      rest_is = ap (λ b. rest_in (cond b (Some o) (observation_of o.number os))) (number_self o.number) ∙ e;
      lowest = low;
    }

    behind : o.rest ≡ None → First os number → First (o ∷ os) number
    behind none f =
        let below = found_above o.number f.first os f.rest h.0 f.rest_is in
        let other : (o.number == f.first) ≡ false = apart o.number f.first below in
        record {
          first = f.first;
          is = ap (fetch_by o os) none ∙ f.is;
          rest = f.rest;
          rest_is = ap (λ b. rest_in (cond b (Some o) (observation_of f.first os))) other ∙ f.rest_is;
          lowest = f.lowest;
        }
      where
        apart : (a b : ℕ) → a < b → (a == b) ≡ false
        apart a b lt = by (a == b) refl
          where
            by : (c : Bool) → (a == b) ≡ c → c ≡ false
            by true e = let same = same_number a b e in absurd (omega (arith, same, lt))
            by false e = refl

    low : (b : Bool) → (o.number == number) ≡ b → rest_in (cond b (Some o) (observation_of number os)) ≡ Some r
        → o.number ≤ number
    low true e is = let same = same_number o.number number e in omega (arith, same)
    low false e is = let lt = found_above o.number number os r h.0 is in omega (arith, lt)

    elsewhere : o.rest ≡ None → (b : Bool) → (o.number == number) ≡ b
        → rest_in (cond b (Some o) (observation_of number os)) ≡ Some r → rest_of number os ≡ Some r
    elsewhere none true e is = let z : None ≡ Some r = sym none ∙ is in absurd (cc z)
    elsewhere none false e is = is

    by : (q : Option Notified) → o.rest ≡ q → (rest_of number os ≡ Some r → First os number) → First (o ∷ os) number
    by (Some q) e ih = here q e (low (o.number == number) refl is)
    by None e ih = behind e (ih (elsewhere e (o.number == number) refl is))

-- .. and what is fetched first is wanted

first_wanted : (os : List Observation) (k : ℕ) → Ascends os → to_fetch os ≡ Some k
    → (r : Notified) × (rest_of k os ≡ Some r)
first_wanted [] k h is = absurd (cc is)
first_wanted (o ∷ os) k h is = by o.rest refl (first_wanted os k h.1)
  where
    by : (q : Option Notified) → o.rest ≡ q → (to_fetch os ≡ Some k → (r : Notified) × (rest_of k os ≡ Some r))
        → (r : Notified) × (rest_of k (o ∷ os) ≡ Some r)
    by (Some q) e ih =
        let same : Some o.number ≡ Some k = sym (ap (fetch_by o os) e) ∙ is in
        let number_is : o.number ≡ k = cc same in (
          q,
          subst (λ n. rest_in (cond (o.number == n) (Some o) (observation_of n os)) ≡ Some q) number_is
              (ap (λ b. rest_in (cond b (Some o) (observation_of o.number os))) (number_self o.number) ∙ e),
        )
    by None e ih =
        let w = ih (sym (ap (fetch_by o os) e) ∙ is) in
        let below = found_above o.number k os w.0 h.0 w.1 in
        (w.0, ap (λ b. rest_in (cond b (Some o) (observation_of k os))) (other (o.number == k) refl below) ∙ w.1)
      where
        other : (b : Bool) → (o.number == k) ≡ b → o.number < k → b ≡ false
        other true e lt = let same = same_number o.number k e in absurd (omega (arith, same, lt))
        other false e lt = refl

-- at a tick a fetch is asked for, where one is wanted, and else what waits

module _ (s : Own) (m : ℕ) where
  abbrev asks_at : Turn → Option Operation
  asks_at d = asks_op (passes s m d).deed

  idle_asks : (running : Option Operation) (first : ℕ) (op : Operation)
      → asks_op (idle s m running (Some first)).deed ≡ Some op → op ≡ Fetching first
  idle_asks None first op h = let same : Fetching first ≡ op = cc h in sym same
  idle_asks (Some o) first op h = absurd (cc h)

  -- where one is wanted
  wanted_asks : (d : Turn) (first : ℕ) (op : Operation) → to_fetch s.observations ≡ Some first
      → asks_at d ≡ Some op → op ≡ Fetching first
  wanted_asks turn_of.Idle first op is h = idle_asks s.running first op
      (sym (ap (λ n. asks_op (idle s m s.running n).deed) is) ∙ h)
  wanted_asks turn_of.Copied first op is h = absurd (cc h)
  wanted_asks (turn_of.End e) first op is h =
      let none : None ≡ Some op = sym (failed_none (λ t. true) (lapse e) s s.running) ∙ h in absurd (cc none)

  starts_asks : (queue : List Operation) (k : ℕ) → AllWait s.observations queue
      → asks_op (starts s m queue).deed ≡ Some (Fetching k) → ⊥
  starts_asks [] k w h = cc h
  starts_asks (op ∷ queue) k w h = by (is_upload_op op && is_held s m) h
    where
      by : (b : Bool) → asks_op (cond b (stays s) (runs op (record s { queue = queue }))).deed ≡ Some (Fetching k) → ⊥
      by true h = cc h
      by false h = let same : op ≡ Fetching k = cc h in subst (Waits s.observations) same w.0

  fetch_asks : (running : Option Operation) (fetch : Option ℕ) (k : ℕ) → AllWait s.observations s.queue
      → asks_op (idle s m running fetch).deed ≡ Some (Fetching k) → fetch ≡ Some k
  fetch_asks (Some o) fetch k w h = absurd (cc h)
  fetch_asks None (Some n) k w h = let same : Fetching n ≡ Fetching k = cc h in
      let number_is : n ≡ k = cc same in ap (λ i. Some i) number_is
  fetch_asks None None k w h = absurd (starts_asks s.queue k w h)

  -- what is fetched is the first for which something is to be fetched
  asks_first : (d : Turn) (k : ℕ) → AllWait s.observations s.queue → asks_at d ≡ Some (Fetching k)
      → to_fetch s.observations ≡ Some k
  asks_first turn_of.Idle k w h = fetch_asks s.running (to_fetch s.observations) k w h
  asks_first turn_of.Copied k w h = absurd (cc h)
  asks_first (turn_of.End e) k w h =
      let none : None ≡ Some (Fetching k) = sym (failed_none (λ t. true) (lapse e) s s.running) ∙ h in absurd (cc none)

module _ (sizes : Sizes) (server : Endpoint) (setup : Setup) where
  -- a tick
  module _ (t : List Call) (now w : ℕ) (below : L.Answer) (d : Turn) (sent : L.Answer)
      (token : Result (List ℕ) AskRefusal) (kept did : Bool) (law : ClientLaw server sizes setup t) where
    abbrev c : Call
    c = Ticks now w below d sent token kept did

    abbrev s : Own
    s = at now (own_of sizes t)

    abbrev m : ℕ
    m = max (own_of sizes t).clock now

    tick_asks : asked_for (own_of sizes t) c ≡ asks_at s m d
    tick_asks = asked_is (passes s m d) (passes s m d).deed token

    ordered : Ascends (own_of sizes t).observations
    ordered = ascends sizes server setup t law

    waits : AllWait (own_of sizes t).observations (own_of sizes t).queue
    waits = (known server sizes setup t law.rows law.exchanges.rows).waits

    starts_at : (first : ℕ) → to_fetch (own_of sizes t).observations ≡ Some first
        → asked_for (own_of sizes t) c ≡ Some (Fetching first) → StartsLowest (own_of sizes t) c first
    starts_at first is asked = record {
      asked = asked;
      wanted = first_wanted (own_of sizes t).observations first ordered is;
      lowest = λ other wanted. (
          let f = first_of (own_of sizes t).observations other wanted.0 ordered wanted.1 in
          let same : Some first ≡ Some f.first = sym is ∙ f.is in
          let number_is : first ≡ f.first = cc same in
          let low = f.lowest in
          omega (arith, number_is, low));
    }

    none_starts : (number : ℕ) → IsWanted number (own_of sizes t) → taken.starts (own_of sizes t) c ≡ true → ⊥
    none_starts number wanted h = by (asks_at s m d) refl
      where
        f : First (own_of sizes t).observations number
        f = first_of (own_of sizes t).observations number wanted.0 ordered wanted.1

        turns : is_turn (asks_at s m d) ≡ true
        turns = ap is_turn (sym tick_asks) ∙ h

        by : (o : Option Operation) → asks_at s m d ≡ o → ⊥
        by None is = let z : is_turn None ≡ true = ap is_turn (sym is) ∙ turns in cc z
        by (Some op) is =
            let op_is : op ≡ Fetching f.first = wanted_asks s m d f.first op f.is is in
            let z : is_turn (Some (Fetching f.first)) ≡ true =
            ap (λ o. is_turn (Some o)) (sym op_is) ∙ (ap is_turn (sym is) ∙ turns) in
            cc z

    one_starts : (number : ℕ) → IsWanted number (own_of sizes t) → (own_of sizes t).running ≡ None
        → Some d ≡ Some turn_of.Idle → (first : ℕ) × StartsLowest (own_of sizes t) c first
    one_starts number wanted none is =
        let f = first_of (own_of sizes t).observations number wanted.0 ordered wanted.1 in
        let idle_is : d ≡ turn_of.Idle = cc is in
        let asks : asks_at s m d ≡ Some (Fetching f.first) =
        ap (asks_at s m) idle_is
        ∙ (ap (λ o. asks_op (idle s m o (to_fetch (own_of sizes t).observations)).deed) none
        ∙ ap (λ n. asks_op (idle s m None n).deed) f.is) in
        (f.first, starts_at f.first f.is (tick_asks ∙ asks))

    no_other : (number : ℕ) → asked_for (own_of sizes t) c ≡ Some (Fetching number)
        → StartsLowest (own_of sizes t) c number
    no_other number asked = starts_at number (asks_first s m d number waits (sym tick_asks ∙ asked)) asked

  -- no other call starts anything
  no_tick : (t : List Call) (c : Call) → turn_in c ≡ None → (taken.starts (own_of sizes t) c ≡ true → ⊥)
      → FetchesFirst sizes t c
  no_tick t c none never = record {
    none_starts = λ number wanted h. never h;
    one_starts = λ number wanted free is. (let z : None ≡ Some turn_of.Idle = sym none ∙ is in absurd (cc z));
    no_other = λ d number is asked. (let z : None ≡ Some d = sym none ∙ is in absurd (cc z));
  }

  fetch_first : (t : List Call) (c : Call) → ClientLaw server sizes setup t → FetchesFirst sizes t c
  fetch_first t (Ticks now w below d sent token kept did) law = record {
    none_starts = none_starts t now w below d sent token kept did law;
    one_starts = one_starts t now w below d sent token kept did law;
    no_other = λ e number is asked. no_other t now w below d sent token kept did law number asked;
  }
  fetch_first t (Calls now r answer) law = no_tick t (Calls now r answer) refl (λ h. cc h)
  fetch_first t (Observes now path answer) law = no_tick t (Observes now path answer) refl (λ h. cc h)
  fetch_first t (Cancels now k answer) law = no_tick t (Cancels now k answer) refl (λ h. cc h)
  fetch_first t (Forgets k kept answer) law = no_tick t (Forgets k kept answer) refl (λ h. cc h)
  fetch_first t (Feeds now from bytes w up settled event sent token kept) law =
      no_tick t (Feeds now from bytes w up settled event sent token kept) refl (λ h. cc h)
  fetch_first t (NextOut answer) law = no_tick t (NextOut answer) refl (λ h. cc h)
  fetch_first t (NextReport answer) law = no_tick t (NextReport answer) refl (λ h. cc h)
  fetch_first t (Asked answer) law = no_tick t (Asked answer) refl (λ h. cc h)

pub fetches_first : (server : Endpoint) (sizes : Sizes) (setup : Setup) (t : List Call) → ClientLaw server sizes setup t
    → AllFetchFirst sizes t
fetches_first server sizes setup [] law = tt
fetches_first server sizes setup (c ∷ t) law =
    let past = client_back server sizes setup (c ∷ []) t law in
    (fetch_first sizes server setup t c past, fetches_first server sizes setup t past)
