-- When a tick of a client does nothing: before the first moment at which its exchanges have a step or something begins.
use Rattle.std.proofs.Common.{◌≡◌, ◌≢◌, ℕ, ◌+◌, ◌-◌, ◌≤◌, ◌<◌, ◌^◌, max, nat_le, Bool, true, false, Option, Some, None}
use Rattle.std.proofs.Common.{List, [], ◌∷◌, ◌++◌, length, refl, ap, sym, subst, ◌∙◌, ◌&&◌, ◌||◌, not, arith}
use Rattle.std.specs.Prelude.{IfNone, IfSome, Result, is_some}
use Rattle.std.proofs.lemmas.Bool.Decides.{nat_tests}
use Rattle.coap_types.specs.declared.endpoint.Endpoint.{Endpoint}
use Rattle.coap_types.specs.declared.endpoint.Moment.{Moment}
use Rattle.coap_types.specs.declared.transmission.TheConstants.{MAX_LATENCY_MS as max_latency}
use Rattle.coap_types.specs.FirstMoment.{HoldsFirst, HoldsNever, HoldsOn, IsFirstMoment}
use Rattle.coap_layer.specs.Trace as L
use Rattle.coap_block.specs.Sizes.{Sizes}
use Rattle.coap_types.proofs.Facts.FirstMoments.{same_first}
use Rattle.coap_layer.specs.declared.setup.Setup.{Setup}
use Rattle.coap_exchange.specs.declared.asker.AskRefusal.{AskRefusal}
use Rattle.coap_exchange.specs.declared.asker.Turn.{Turn}
use Rattle.coap_exchange.specs.declared.asker.Turn.TheVariants as turn
use Rattle.coap_exchange.specs.AskerLaw as X
use Rattle.coap_exchange.specs.AskerTrace as E
use Rattle.coap_exchange.specs.Above.{asked_by}
use Rattle.coap_exchange.specs.Machine.Rests.{has_turn}
use Rattle.coap_exchange.proofs.Facts.ClientSide.{exchanged_split, led_exchanged, led_start, rests_led, turns_led}
use Rattle.coap_client.specs.Trace.{Call, Ticks}
use Rattle.coap_client.specs.Own.{Operation, Own, clocked, start}
use Rattle.coap_client.specs.Effects.{Effect}
use Rattle.coap_client.specs.Events.{is_held, is_upload_op, passes}
use Rattle.coap_client.specs.Observations.{to_fetch}
use Rattle.coap_client.specs.Steps.{after, asks, is_idle, lower}
use Rattle.coap_client.specs.Deeds.{at, close, deeds}
use Rattle.coap_client.specs.Led.{Led, State, Step}
use Rattle.coap_client.specs.Object.Starts.{idle_now, may_start, starts_now}
use Rattle.coap_client.specs.Turns.Due.{TicksDo, begins, has_work, latest}
use Rattle.coap_client.proofs.Facts.Calls.PassingLemmas.{idle_fetches, idle_starts, idle_stays, starts_ask}
use Rattle.coap_client.proofs.Facts.Calls.PassingLemmas.{starts_rests}

or_left : (b c : Bool) → (b || c) ≡ false → b ≡ false
or_left false c h = refl
or_left true c h = h

or_right : (b c : Bool) → (b || c) ≡ false → c ≡ false
or_right false c h = h
or_right true c h = absurd (cc h)

-- what holds now holds first now
pub now_first : (holds : ℕ → Bool) (from : ℕ) → holds from ≡ true → HoldsFirst holds from from
now_first holds from h = record {
  from_on = omega arith;
  does = h;
  not_before = λ now le less. absurd (omega (arith, le, less));
}

-- the hold
pub over_is : (last now : ℕ) → nat_le (max_latency + 1) (now - last) ≡ not (nat_le now (last + max_latency))
over_is last now = go (nat_le (max_latency + 1) (now - last)) (nat_le now (last + max_latency)) refl refl
  where
    go : (b c : Bool) → nat_le (max_latency + 1) (now - last) ≡ b → nat_le now (last + max_latency) ≡ c → b ≡ not c
    go true true h k = absurd (grind (arith, nat_tests, h, k))
    go true false h k = refl
    go false true h k = refl
    go false false h k = absurd (grind (arith, nat_tests, h, k))

pub unheld_first : (s : Own) (from : ℕ) → s.hold ≡ None → HoldsFirst (λ now. not (is_held s now)) from from
unheld_first s from none = now_first (λ now. not (is_held s now)) from
    (ap (λ (o : Option ℕ). not (elim o [ None ↦ false | Some last ↦ nat_le from (last + max_latency) ])) none)

pub held_first : (s : Own) (last from : ℕ) (m : Option Moment) → s.hold ≡ Some last
    → IsFirstMoment (λ now. nat_le (max_latency + 1) (now - last)) from m
    → IsFirstMoment (λ now. not (is_held s now)) from m
held_first s last from m some h = same_first (λ now. nat_le (max_latency + 1) (now - last)) (λ now. not (is_held s now))
    from m
    (λ now le. over_is last now
    ∙ sym (ap (λ (o : Option ℕ). not (elim o [ None ↦ false | Some last ↦ nat_le now (last + max_latency) ])) some)) h

-- the first of what waits
pub start_never : (s : Own) (q : List Operation) (from : ℕ) → length q ≡ 0 → HoldsNever (λ now. may_start now s q) from
start_never s [] from h = λ now le less. refl
start_never s (op ∷ q) from h = absurd (cc h)

pub start_first : (s : Own) (q : List Operation) (from : ℕ) (m : Option Moment) → may_start from s q ≡ false
    → length q ≢ 0 → IsFirstMoment (λ now. not (is_held s now)) from m → IsFirstMoment (λ now. may_start now s q) from m
start_first s [] from m none some h = absurd (some refl)
start_first s (op ∷ q) from m none some h =
    same_first (λ now. not (is_held s now)) (λ now. may_start now s (op ∷ q)) from m
    (λ now le. sym (ap (λ b. not (b && is_held s now)) (up (is_upload_op op) (is_held s from) none))) h
  where
    up : (b c : Bool) → not (b && c) ≡ false → b ≡ true
    up true c k = refl
    up false c k = absurd (cc k)

-- what begins
begins_is : (s : Own) (now : ℕ) → asks (starts_now now s).deed ≡ may_start now s s.queue
begins_is s now = go (may_start now s s.queue) refl
  where
    go : (b : Bool) → may_start now s s.queue ≡ b → asks (starts_now now s).deed ≡ b
    go true is = sym (starts_ask now s s.queue is)
    go false is = ap (λ (e : Effect). asks e.deed) (starts_rests now s s.queue is)

pub begins_never : (s : Own) (from : ℕ) → is_some s.running ≡ true → HoldsNever (begins s) from
begins_never s from runs = λ now le less. ap (λ (e : Effect). asks e.deed)
    (idle_stays (clocked now s) now s.running (to_fetch s.observations) runs)

pub begins_now : (s : Own) (from n : ℕ) → s.running ≡ None → to_fetch s.observations ≡ Some n
    → HoldsFirst (begins s) from from
begins_now s from n none some = now_first (begins s) from (ap (λ (e : Effect). asks e.deed)
    (idle_fetches (clocked from s) from s.running (to_fetch s.observations) n none some))

pub begins_first : (s : Own) (from : ℕ) (m : Option Moment) → s.running ≡ None → to_fetch s.observations ≡ None
    → IsFirstMoment (λ now. may_start now s s.queue) from m → IsFirstMoment (begins s) from m
begins_first s from m none nothing h = same_first (λ now. may_start now s s.queue) (begins s) from m
    (λ now le. sym (ap (λ (e : Effect). asks e.deed)
    (idle_starts (clocked now s) now s.running (to_fetch s.observations) none nothing) ∙ begins_is s now)) h

-- once something begins, it would begin at each later moment too
begins_on : (s : Own) → HoldsOn (begins s)
begins_on s now later le h = go s.running (to_fetch s.observations) refl refl h
  where
    start_on : (q : List Operation) → may_start now s q ≡ true → may_start later s q ≡ true
    start_on [] k = k
    start_on (op ∷ q) k = held_on (is_upload_op op) s.hold k
      where
        held_on : (b : Bool) (o : Option ℕ)
            → not (b && elim o [ None ↦ false | Some last ↦ nat_le now (last + max_latency) ]) ≡ true
            → not (b && elim o [ None ↦ false | Some last ↦ nat_le later (last + max_latency) ]) ≡ true
        held_on false o k = refl
        held_on true None k = refl
        held_on true (Some last) k = go (nat_le now (last + max_latency)) (nat_le later (last + max_latency)) refl refl
            k
          where
            go : (b c : Bool) → nat_le now (last + max_latency) ≡ b → nat_le later (last + max_latency) ≡ c
                → not b ≡ true → not c ≡ true
            go b false i j k = refl
            go true true i j k = k
            go false true i j k = absurd (grind (arith, nat_tests, i, j, le))

    go : (r : Option Operation) (n : Option ℕ) → s.running ≡ r → to_fetch s.observations ≡ n
        → asks (idle_now now s).deed ≡ true → asks (idle_now later s).deed ≡ true
    go (Some op) n is at_n k =
        let none : asks (idle_now now s).deed ≡ false = ap (λ (e : Effect). asks e.deed)
        (idle_stays (clocked now s) now s.running (to_fetch s.observations) (ap is_some is)) in
        absurd (cc (none, k))
    go None (Some n) is at_n k = ap (λ (e : Effect). asks e.deed)
        (idle_fetches (clocked later s) later s.running (to_fetch s.observations) n is at_n)
    go None None is at_n k =
        let was : may_start now s s.queue ≡ true = sym (begins_is s now)
        ∙ (sym (ap (λ (e : Effect). asks e.deed)
        (idle_starts (clocked now s) now s.running (to_fetch s.observations) is at_n)) ∙ k) in
        ap (λ (e : Effect). asks e.deed)
        (idle_starts (clocked later s) later s.running (to_fetch s.observations) is at_n)
        ∙ (begins_is s later ∙ start_on s.queue was)

-- the exchanges of a client were led
module _ (server : Endpoint) (sizes : Sizes) (setup : Setup) (t : List Call) (s : State)
    (led : Led server sizes setup t s) where
  abbrev asked : List E.Call
  asked = asked_by (start sizes) after lower t ++ []

  led_below : X.Led server setup asked s.layer
  led_below = led_exchanged server setup [] (asked_by (start sizes) after lower t) (X.fresh_state server setup) s.layer
      (led_start server setup) led.layer

  -- one tick
  module _ (now w : ℕ) (below : L.Answer) (u : Turn) (sent : L.Answer) (token : Result (List ℕ) AskRefusal)
      (kept did : Bool) (new : State) (h : Step s (Ticks now w below u sent token kept did) new) where
    abbrev input : E.Call
    input = E.Ticks (max s.own.clock now) below u

    turned : (mid : X.State) × X.Step s.layer input mid
    turned =
        let m : ℕ = max s.own.clock now in
        let e : Effect = passes (at now s.own) m u in
        let c : Effect = close m e token in
        let first : List E.Call = deeds e.deed e.own m w sent token kept in
        let last : List E.Call = deeds c.deed c.own m w sent token kept in
        let p = exchanged_split s.layer new.layer last (first ++ input ∷ []) h.under in
        let q = exchanged_split s.layer p.0 first (input ∷ []) p.1 in
        (q.0, subst (λ x. X.Step x input q.0) q.1.1 q.1.2)

    did_is : did ≡ (not (is_idle u) || asks (passes (at now s.own) (max s.own.clock now) u).deed)
    did_is = h.right

    idles : has_turn s.layer (max s.layer.own.clock (max s.own.clock now)) ≡ false
        → begins s.own (max s.own.clock now) ≡ false → did ≡ false
    idles none nothing =
        let idle : u ≡ turn.Idle =
        rests_led server setup asked s.layer led_below (max s.own.clock now) none below u turned.0 turned.1 in
        did_is ∙ (ap (λ k. not (is_idle k) || asks (passes (at now s.own) (max s.own.clock now) k).deed) idle ∙ nothing)

    does_turn : has_turn s.layer (max s.layer.own.clock (max s.own.clock now)) ≡ true → did ≡ true
    does_turn some = go u refl
        (turns_led server setup asked s.layer led_below (max s.own.clock now) some below u turned.0 turned.1)
      where
        go : (k : Turn) → u ≡ k → u ≢ turn.Idle → did ≡ true
        go turn.Idle is other = absurd (other is)
        go _ is other = did_is ∙ ap (λ k. not (is_idle k) || asks (passes (at now s.own) (max s.own.clock now)
            k).deed) is

    does_begin : begins s.own (max s.own.clock now) ≡ true → did ≡ true
    does_begin some = go u refl
      where
        go : (k : Turn) → u ≡ k → did ≡ true
        go turn.Idle is =
            did_is ∙ (ap (λ k. not (is_idle k) || asks (passes (at now s.own) (max s.own.clock now) k).deed) is ∙ some)
        go _ is = did_is ∙ ap (λ k. not (is_idle k) || asks (passes (at now s.own) (max s.own.clock now) k).deed) is

  not_true : (b : Bool) → (b ≡ true → ⊥) → b ≡ false
  not_true true f = absurd (f refl)
  not_true false f = refl

  pub rests : (now : ℕ) → has_work s (max (latest s) now) ≡ false → TicksDo false s now
  rests now none w below u sent token kept did new h =
      let same : max (latest s) now ≡ max s.layer.own.clock (max s.own.clock now) = omega arith in
      let quiet : has_turn s.layer (max s.layer.own.clock (max s.own.clock now)) ≡ false =
      subst (λ n. has_turn s.layer n ≡ false) same (or_left _ _ none) in
      let nothing : begins s.own (max (latest s) now) ≡ false =
      or_right (has_turn s.layer (max (latest s) now)) _ none in
      idles now w below u sent token kept did new h quiet
      (not_true (begins s.own (max s.own.clock now)) (λ k.
      let on = begins_on s.own (max s.own.clock now) (max (latest s) now) (omega arith) k in
      cc (on, nothing)))

  pub does : (now : ℕ) → latest s ≤ now → has_work s now ≡ true → TicksDo true s now
  does now late some w below u sent token kept did new h =
      let own : now ≡ max s.own.clock now = omega (arith, late) in
      let under : now ≡ max s.layer.own.clock (max s.own.clock now) = omega (arith, late) in
      go (has_turn s.layer now) refl some own under
    where
      go : (b : Bool) → has_turn s.layer now ≡ b → (b || begins s.own now) ≡ true → now ≡ max s.own.clock now
          → now ≡ max s.layer.own.clock (max s.own.clock now) → did ≡ true
      go true is k own under = does_turn now w below u sent token kept did new h
          (subst (λ n. has_turn s.layer n ≡ true) under is)
      go false is k own under = does_begin now w below u sent token kept did new h
          (subst (λ n. begins s.own n ≡ true) own k)

  -- so of the first moment
  pub none_of : (m : Option Moment) → latest s < 2 ^ 64 → IsFirstMoment (has_work s) (latest s) m
      → IfNone m ((now : ℕ) → now < 2 ^ 64 → TicksDo false s now)
  none_of (Some at) range h = tt
  none_of None range h = λ now less. rests now (h (max (latest s) now) (omega arith) (omega (arith, range, less)))

  pub some_of : (m : Option Moment) → IsFirstMoment (has_work s) (latest s) m
      → IfSome m (λ at. (now : ℕ) → max (latest s) now < at.0 → TicksDo false s now)
  some_of None h = tt
  some_of (Some at) h = λ now less. rests now (h.not_before (max (latest s) now) (omega arith) less)

  pub does_of : (m : Option Moment) → IsFirstMoment (has_work s) (latest s) m → IfSome m (λ at. TicksDo true s at.0)
  does_of None h = tt
  does_of (Some at) h = does at.0 h.from_on h.does

  pub from_of : (m : Option Moment) → IsFirstMoment (has_work s) (latest s) m → IfSome m (λ at. latest s ≤ at.0)
  from_of None h = tt
  from_of (Some at) h = h.from_on
