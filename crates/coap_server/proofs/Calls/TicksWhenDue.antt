-- When a tick of a server does nothing, and when it does something: the exchanges have a step, or an observer can be
-- notified.
use Rattle.std.proofs.Common.{◌≡◌, ℕ, zero, suc, ◌≤◌, ◌<◌, ◌^◌, max, nat_le, Bool, true, false, Option, Some, None}
use Rattle.std.proofs.Common.{List, [], ◌∷◌, drop, slice_get, refl, ap, sym, subst, ◌∙◌, ◌&&◌, ◌||◌, not, arith}
use Rattle.std.specs.List.{list_any}
use Rattle.std.specs.Prelude.{IfNone, IfSome, ◌≢◌}
use Rattle.std.proofs.lemmas.Bool.Decides.{nat_tests}
use Rattle.coap_types.specs.declared.endpoint.Endpoint.{Endpoint}
use Rattle.coap_types.specs.declared.endpoint.Moment.{Moment}
use Rattle.coap_types.specs.FirstMoment.{HoldsFirst, HoldsNever, IsFirstMoment}
use Rattle.coap_layer.specs.Machine.State.{is_busy, is_free}
use Rattle.coap_layer.proofs.Facts.FirstMoments.{free_on}
use Rattle.coap_observe.specs.Observers.{Observer}
use Rattle.coap_resource.specs.Limits.{Limits}
use Rattle.coap_exchange.specs.AnswererLaw as X
use Rattle.coap_exchange.specs.Machine.WhatIsDue.{takes_con}
use Rattle.coap_layer.specs.Trace as L
use Rattle.coap_layer.specs.declared.setup.Setup.{Setup}
use Rattle.coap_exchange.specs.declared.answerer.Due.{Due}
use Rattle.coap_exchange.specs.declared.answerer.Due.TheVariants as due
use Rattle.coap_exchange.specs.AnswererSteps.{failed_by}
use Rattle.coap_exchange.specs.AnswererTrace as E
use Rattle.coap_exchange.specs.Machine.Rests.{AnswererRests, AnswererTurns, has_due}
use Rattle.coap_exchange.proofs.Facts.ServerSide.{exchanged_split, takes, rests_led, turns_led, ready_answer}
use Rattle.coap_exchange.proofs.Facts.ServerSide.{ready_same}
use Rattle.coap_exchange.proofs.Facts.ServerSide.{idle_below, idle_same}
use Rattle.coap_server.specs.Asks.{responding}
use Rattle.coap_server.specs.Handling.{HandlesDue, heard, is_done, ticking}
use Rattle.coap_server.specs.Law.{lower_of}
use Rattle.coap_server.specs.Led.{Led, State, Step, exchanges_of}
use Rattle.coap_server.specs.Notifying.{behind, marked, readies, NotifiesNext, told}
use Rattle.coap_server.specs.Observers.{unless_ended}
use Rattle.coap_server.specs.Trace.{Call, Handling, Notifies, Own, Ticks}
use Rattle.coap_server.specs.Turns.WhenDue.{TicksDo, has_work, latest}
use Rattle.coap_server.specs.Turns.Idle.{takes_notice}

-- a list, place by place
module _ {A : Type 0} (p : A → Bool) where
  pub any_there : (xs : List A) (i : ℕ) (x : A) → slice_get xs i ≡ Some x → p x ≡ true → list_any p (drop i xs) ≡ true
  any_there [] i x is h = absurd (cc is)
  any_there (y ∷ xs) zero x is h = let same : y ≡ x = cc is in ap (λ z. p z || list_any p xs) same
      ∙ ap (λ b. b || list_any p xs) h
  any_there (y ∷ xs) (suc i) x is h = any_there xs i x is h

  pub any_next : (xs : List A) (i : ℕ) (x : A) → slice_get xs i ≡ Some x → p x ≡ false
      → list_any p (drop (suc i) xs) ≡ list_any p (drop i xs)
  any_next [] i x is h = absurd (cc is)
  any_next (y ∷ xs) zero x is h = let same : y ≡ x = cc is in
      sym (ap (λ z. p z || list_any p xs) same ∙ ap (λ b. b || list_any p xs) h)
  any_next (y ∷ xs) (suc i) x is h = any_next xs i x is h

  pub any_past : (xs : List A) (i : ℕ) → slice_get xs i ≡ None → list_any p (drop i xs) ≡ false
  any_past [] zero is = refl
  any_past [] (suc i) is = refl
  any_past (y ∷ xs) zero is = absurd (cc is)
  any_past (y ∷ xs) (suc i) is = any_past xs i is

any_same : {A : Type 0} (p q : A → Bool) (xs : List A) → ((x : A) → p x ≡ q x) → list_any p xs ≡ list_any q xs
any_same p q [] f = refl
any_same p q (x ∷ xs) f = ap (λ b. b || list_any p xs) (f x) ∙ ap (λ b. q x || b) (any_same p q xs f)

any_none : {A : Type 0} (p : A → Bool) (xs : List A) → ((x : A) → p x ≡ false) → list_any p xs ≡ false
any_none p [] f = refl
any_none p (x ∷ xs) f = ap (λ b. b || list_any p xs) (f x) ∙ any_none p xs f

and_false : (b : Bool) → (b && false) ≡ false
and_false true = refl
and_false false = refl

module _ (x : X.State) (os : List Observer) (from : ℕ) (late : x.own.clock ≤ from) where
  abbrev free : ℕ → Bool
  free now = is_free now x.layer.upcoming x.layer.last_used

  same_free : (now : ℕ) → from ≤ now → (b : Bool) → free now ≡ b → (to : Endpoint)
      → takes_con x now to ≡ (not (is_busy to x.layer.open_cons) && b)
  same_free now le b is to =
      let at : max x.own.clock now ≡ now = omega (arith, late, le) in
      ap (λ n. not (is_busy to x.layer.open_cons) && free n) at ∙ ap (λ f. not (is_busy to x.layer.open_cons) && f) is

  not_free : (now : ℕ) → from ≤ now → free now ≡ false → takes_notice x now os ≡ false
  not_free now le is = any_none (λ (o : Observer). takes_con x now o.to) (marked os)
      (λ o. same_free now le false is o.to ∙ and_false (not (is_busy o.to x.layer.open_cons)))

  once_free : (at now : ℕ) → from ≤ at → at ≤ now → free at ≡ true → takes_notice x now os ≡ takes_notice x at os
  once_free at now le later is =
      let on : free now ≡ true = free_on x.layer.upcoming x.layer.last_used at now later is in
      any_same (λ (o : Observer). takes_con x now o.to) (λ (o : Observer). takes_con x at o.to) (marked os)
      (λ o. same_free now (omega (arith, le, later)) true on o.to ∙ sym (same_free at le true is o.to))

  from_is : max x.own.clock from ≡ from
  from_is = omega (arith, late)

  pub never_free : HoldsNever free (max x.own.clock from) → HoldsNever (λ now. takes_notice x now os) from
  never_free h now le less = not_free now le (h now (omega (arith, late, le)) less)

  pub never_taken : (at : ℕ) → HoldsFirst free (max x.own.clock from) at → takes_notice x at os ≡ false
      → HoldsNever (λ now. takes_notice x now os) from
  never_taken at h none now le less = go (nat_le at now) refl
    where
      go : (b : Bool) → nat_le at now ≡ b → takes_notice x now os ≡ false
      go true is = let l : max x.own.clock from ≤ at = h.from_on in
          once_free at now (omega (arith, l)) (le_of is) h.does ∙ none
        where
          le_of : nat_le at now ≡ true → at ≤ now
          le_of e = grind (arith, nat_tests, e)
      go false is = not_free now le (h.not_before now (omega (arith, late, le)) (less_of is))
        where
          less_of : nat_le at now ≡ false → now < at
          less_of e = grind (arith, nat_tests, e)

  pub first_taken : (at : ℕ) → HoldsFirst free (max x.own.clock from) at → takes_notice x at os ≡ true
      → HoldsFirst (λ now. takes_notice x now os) from at
  first_taken at h taken = record {
    from_on = let l : max x.own.clock from ≤ at = h.from_on in omega (arith, l);
    does = taken;
    not_before = λ now le less. not_free now le (h.not_before now (omega (arith, late, le)) less);
  }

-- which of the observers is found
module _ (at : ℕ) where
  abbrev Can : X.State → Observer → Bool
  Can x o = takes x.layer at o.to

  -- the one that is found can be notified
  found_can : (n : ℕ) (os : List Observer) (x y : X.State) (o : Observer) → behind n os ≡ Some o
      → X.Exchanged x (readies at n os) y → list_any (Can x) os ≡ true
  found_can n [] x y o is asks = absurd (cc is)
  found_can zero (p ∷ os) x y o is asks =
      let here : true ≡ takes asks.0.layer at p.to = ready_answer asks.0 y at p.to true asks.2 in
      let there : takes x.layer at p.to ≡ true =
      sym (here ∙ ap (λ (z : X.State). takes z.layer at p.to) asks.1) in
      ap (λ b. b || list_any (Can x) os) there
  found_can (suc n) (p ∷ os) x y o is asks =
      let parts = exchanged_split x y (readies at n os) (E.Ready at p.to false ∷ []) asks in
      let rest : list_any (Can parts.0) os ≡ true = found_can n os parts.0 y o is parts.2 in
      let step : X.Step x (E.Ready at p.to false) parts.0 =
      subst (λ z. X.Step z (E.Ready at p.to false) parts.0) parts.1.1 parts.1.2 in
      let same : list_any (Can x) os ≡ list_any (Can parts.0) os =
      any_same (Can x) (Can parts.0) os (λ q. sym (ready_same x parts.0 at p.to false step q.to)) in
      ap (λ b. Can x p || b) (same ∙ rest) ∙ or_true (Can x p)
    where
      or_true : (b : Bool) → (b || true) ≡ true
      or_true true = refl
      or_true false = refl

  -- where none is found, none can
  none_can : (n : ℕ) (os : List Observer) (x y : X.State) → behind n os ≡ None → X.Exchanged x (readies at n os) y
      → list_any (Can x) os ≡ false
  none_can n [] x y is asks = refl
  none_can zero (p ∷ os) x y is asks = absurd (cc is)
  none_can (suc n) (p ∷ os) x y is asks =
      let parts = exchanged_split x y (readies at n os) (E.Ready at p.to false ∷ []) asks in
      let rest : list_any (Can parts.0) os ≡ false = none_can n os parts.0 y is parts.2 in
      let step : X.Step x (E.Ready at p.to false) parts.0 =
      subst (λ z. X.Step z (E.Ready at p.to false) parts.0) parts.1.1 parts.1.2 in
      let same : list_any (Can x) os ≡ list_any (Can parts.0) os =
      any_same (Can x) (Can parts.0) os (λ q. sym (ready_same x parts.0 at p.to false step q.to)) in
      let here : takes x.layer at p.to ≡ false = sym (ready_answer x parts.0 at p.to false step) in
      ap (λ b. b || list_any (Can x) os) here ∙ (same ∙ rest)

-- one tick
module _ (s new : State) (now word : ℕ) (below : L.Answer) (room : Bool) (d : Due) (passed : ℕ) (h : Handling)
    (id : ℕ) (did : Bool) (st : Step s (Ticks now word below room d passed h id did) new)
    (clocks : s.layer.clock ≡ s.own.exchanges.clock) where
  abbrev m : ℕ
  m = max s.own.clock now

  abbrev x : X.State
  x = exchanges_of s

  abbrev hs : Own
  hs = heard s.own now (ticking s.own now below room d)

  ticks : (mid : X.State) × X.Step x (E.Ticks m below room d) mid
      × X.Exchanged mid (responding hs d passed h word id) (exchanges_of new)
  ticks =
      let parts = exchanged_split x (exchanges_of new) (responding hs d passed h word id)
      (ticking s.own now below room d ∷ []) st.under in
      (parts.0, subst (λ z. X.Step z (E.Ticks m below room d) parts.0) parts.1.1 parts.1.2, parts.2)

  can_is : (o : Observer) → takes x.layer m o.to ≡ takes_con x m o.to
  can_is o = ap (λ n. not (is_busy o.to x.layer.open_cons) && is_free (max n m) x.layer.upcoming x.layer.last_used)
      clocks

  -- nothing else was due
  module _ (is : d ≡ due.Idle) where
    tick : X.Step x (E.Ticks m below room due.Idle) ticks.0
    tick = subst (λ k. X.Step x (E.Ticks m below room k) ticks.0) is ticks.1

    idle : below ≡ L.Idle
    idle = idle_below x ticks.0 m below room tick

    observers_are : hs.observers ≡ s.own.observers
    observers_are = ap (λ b. unless_ended (failed_by b s.own.exchanges.separate) s.own.observers) idle

    all_can : list_any (Can m ticks.0) (marked hs.observers) ≡ takes_notice x m s.own.observers
    all_can = ap (λ os. list_any (Can m ticks.0) (marked os)) observers_are
        ∙ any_same (Can m ticks.0) (λ o. takes_con x m o.to) (marked s.own.observers)
        (λ o. idle_same x ticks.0 m below room tick o.to ∙ can_is o)

    handles : NotifiesNext (behind passed (marked hs.observers)) hs.store h
    handles = subst (λ k. HandlesDue hs k passed h) is st.right.0

    asks : X.Exchanged ticks.0 (responding hs due.Idle passed h word id) (exchanges_of new)
    asks = subst (λ k. X.Exchanged ticks.0 (responding hs k passed h word id) (exchanges_of new)) is ticks.2

    did_is : did ≡ is_done due.Idle h
    did_is = st.right.1 ∙ ap (λ k. is_done k h) is

    silent : takes_notice x m s.own.observers ≡ false → did ≡ false
    silent none = go (behind passed (marked hs.observers)) refl handles
      where
        go : (o : Option Observer) → behind passed (marked hs.observers) ≡ o → NotifiesNext o hs.store h → did ≡ false
        go None at_o k = did_is ∙ ap (is_done due.Idle) k
        go (Some o) at_o k =
            let sent : X.Exchanged ticks.0 (responding hs due.Idle passed (Notifies o (told hs.store o)) word id)
            (exchanges_of new) =
            subst (λ z. X.Exchanged ticks.0 (responding hs due.Idle passed z word id) (exchanges_of new)) k asks in
            let found = found_can m passed (marked hs.observers) ticks.0 sent.0 o at_o sent.1 in
            absurd (cc (found, all_can, none))

    notifies : takes_notice x m s.own.observers ≡ true → did ≡ true
    notifies some = go (behind passed (marked hs.observers)) refl handles
      where
        go : (o : Option Observer) → behind passed (marked hs.observers) ≡ o → NotifiesNext o hs.store h → did ≡ true
        go (Some o) at_o k = did_is ∙ ap (is_done due.Idle) k
        go None at_o k =
            let quiet : X.Exchanged ticks.0 (readies m passed (marked hs.observers)) (exchanges_of new) =
            subst (λ z. X.Exchanged ticks.0 (responding hs due.Idle passed z word id) (exchanges_of new)) k asks in
            let none = none_can m passed (marked hs.observers) ticks.0 (exchanges_of new) at_o quiet in
            absurd (cc (none, all_can, some))

  pub rests_here : AnswererRests x m → takes_notice x m s.own.observers ≡ false → did ≡ false
  rests_here idles none = silent (idles below room d ticks.0 ticks.1) none

  pub does_due : AnswererTurns x m → did ≡ true
  does_due turns = go d refl (turns below room d ticks.0 ticks.1)
    where
      go : (k : Due) → d ≡ k → d ≢ due.Idle → did ≡ true
      go due.Idle is other = absurd (other is)
      go due.Copied is other = st.right.1 ∙ ap (λ k. is_done k h) is
      go due.Expired is other = st.right.1 ∙ ap (λ k. is_done k h) is
      go (due.Ready a) is other = st.right.1 ∙ ap (λ k. is_done k h) is

  pub does_notice : takes_notice x m s.own.observers ≡ true → did ≡ true
  does_notice some = go d refl
    where
      go : (k : Due) → d ≡ k → did ≡ true
      go due.Idle is = notifies is some
      go due.Copied is = st.right.1 ∙ ap (λ k. is_done k h) is
      go due.Expired is = st.right.1 ∙ ap (λ k. is_done k h) is
      go (due.Ready a) is = st.right.1 ∙ ap (λ k. is_done k h) is

or_left : (b c : Bool) → (b || c) ≡ false → b ≡ false
or_left false c h = refl
or_left true c h = h

or_right : (b c : Bool) → (b || c) ≡ false → c ≡ false
or_right false c h = h
or_right true c h = absurd (cc h)

-- what calls led to
module _ (limits : Limits) (szx : ℕ) (setup : Setup) (t : List Call) (s : State) (led : Led limits szx setup t s)
    (clocks : s.layer.clock ≡ s.own.exchanges.clock) where
  pub rests : (now : ℕ) → has_work s (max (latest s) now) ≡ false → TicksDo false s now
  rests now none w below room d passed h id did new st =
      let m : ℕ = max s.own.clock now in
      let at : max s.own.exchanges.clock m ≡ max (latest s) now = omega arith in
      let again : max s.own.exchanges.clock (max (latest s) now) ≡ max (latest s) now = omega arith in
      let quiet : has_due (exchanges_of s) (max s.own.exchanges.clock m) ≡ false =
      subst (λ n. has_due (exchanges_of s) n ≡ false) (sym at) (or_left _ _ none) in
      let told : takes_notice (exchanges_of s) (max (latest s) now) s.own.observers ≡ false =
      or_right (has_due (exchanges_of s) (max (latest s) now)) _ none in
      let same : takes_notice (exchanges_of s) m s.own.observers
      ≡ takes_notice (exchanges_of s) (max (latest s) now) s.own.observers =
      any_same (λ (o : Observer). takes_con (exchanges_of s) m o.to)
      (λ (o : Observer). takes_con (exchanges_of s) (max (latest s) now) o.to) (marked s.own.observers)
      (λ o. ap (λ n. not (is_busy o.to s.layer.open_cons) && is_free n s.layer.upcoming s.layer.last_used)
      (at ∙ sym again)) in
      rests_here s new now w below room d passed h id did st clocks
      (rests_led setup (lower_of limits szx t) (exchanges_of s) led.exchanges clocks m quiet) (same ∙ told)

  pub does : (now : ℕ) → latest s ≤ now → has_work s now ≡ true → TicksDo true s now
  does now late some w below room d passed h id did new st =
      let own : now ≡ max s.own.clock now = omega (arith, late) in
      let under : now ≡ max s.own.exchanges.clock (max s.own.clock now) = omega (arith, late) in
      go (has_due (exchanges_of s) now) refl some own under
    where
      go : (b : Bool) → has_due (exchanges_of s) now ≡ b
          → (b || takes_notice (exchanges_of s) now s.own.observers) ≡ true → now ≡ max s.own.clock now
          → now ≡ max s.own.exchanges.clock (max s.own.clock now) → did ≡ true
      go true is k own under = does_due s new now w below room d passed h id did st clocks
          (turns_led setup (lower_of limits szx t) (exchanges_of s) led.exchanges clocks (max s.own.clock now)
          (subst (λ n. has_due (exchanges_of s) n ≡ true) under is))
      go false is k own under = does_notice s new now w below room d passed h id did st clocks
          (subst (λ n. takes_notice (exchanges_of s) n s.own.observers ≡ true) own k)

  -- so of the first moment
  pub none_of : (r : Option Moment) → latest s < 2 ^ 64 → IsFirstMoment (has_work s) (latest s) r
      → IfNone r ((now : ℕ) → now < 2 ^ 64 → TicksDo false s now)
  none_of (Some at) range h = tt
  none_of None range h = λ now less. rests now (h (max (latest s) now) (omega arith) (omega (arith, range, less)))

  pub some_of : (r : Option Moment) → IsFirstMoment (has_work s) (latest s) r
      → IfSome r (λ at. (now : ℕ) → max (latest s) now < at.0 → TicksDo false s now)
  some_of None h = tt
  some_of (Some at) h = λ now less. rests now (h.not_before (max (latest s) now) (omega arith) less)

  pub does_of : (r : Option Moment) → IsFirstMoment (has_work s) (latest s) r → IfSome r (λ at. TicksDo true s at.0)
  does_of None h = tt
  does_of (Some at) h = does at.0 h.from_on h.does

  pub from_of : (r : Option Moment) → IsFirstMoment (has_work s) (latest s) r → IfSome r (λ at. latest s ≤ at.0)
  from_of None h = tt
  from_of (Some at) h = h.from_on
