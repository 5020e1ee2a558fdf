-- When a tick of a server's side does nothing: before the first moment at which its layer has a step, or a deferred
-- request is ready and a Message ID free.
use Rattle.std.proofs.Common.{◌≡◌, ◌≢◌, ℕ, ◌+◌, ◌-◌, ◌≤◌, ◌<◌, max, nat_le, Bool, true, false, Option, Some, None}
use Rattle.std.proofs.Common.{List, [], ◌∷◌, ◌++◌, length, take, get_or, is_some, refl, ap, sym, subst, ◌∙◌, ◌&&◌, ◌||◌}
use Rattle.std.proofs.Common.{not, cond}
use Rattle.std.proofs.Common.{arith, add-one}
use Rattle.std.proofs.Math.Seq.{take-suc}
use Rattle.std.proofs.lemmas.Bool.{and_parts}
use Rattle.std.proofs.lemmas.Bool.Decides.{nat_tests}
use Rattle.coap_types.specs.declared.endpoint.Endpoint.{Endpoint}
use Rattle.coap_types.specs.declared.endpoint.Moment.{Moment}
use Rattle.coap_types.specs.FirstMoment.{IsFirstMoment}
use Rattle.coap_layer.specs.Machine.State as L
use Rattle.coap_layer.specs.Machine.State.{answer_of, is_busy, is_copy_due, is_failed, is_free, tick_of}
use Rattle.coap_layer.specs.Machine.Steps.{Steps}
use Rattle.coap_layer.specs.Machine.Waits.{any_has_step}
use Rattle.coap_layer.specs.Trace as T
use Rattle.coap_layer.specs.Words.{Open}
use Rattle.coap_types.proofs.Facts.FirstMoments.{same_first}
use Rattle.coap_layer.proofs.Facts.FirstMoments.{idle_is, step_is}
use Rattle.coap_layer.proofs.Facts.StepsOfLayer.{steps_split}
use Rattle.coap_exchange.specs.declared.answerer.Due.{Due}
use Rattle.coap_exchange.specs.declared.answerer.Due.TheVariants as due
use Rattle.coap_exchange.specs.declared.separate.Deferred.{Deferred}
use Rattle.coap_exchange.specs.declared.separate.Separate.{Separate}
use Rattle.coap_exchange.specs.AnswererLaw.{Led, ResponseLaw, State, Step}
use Rattle.coap_exchange.specs.AnswererSteps.{asking_room, due_if, due_of, first_ready, is_ready, is_waited_for}
use Rattle.coap_exchange.specs.AnswererSteps.{ready_at, ready_if}
use Rattle.coap_exchange.specs.AnswererTrace.{Call, Own, Ready, Ticks}
use Rattle.coap_exchange.specs.AskerRequests.{asked}
use Rattle.coap_exchange.specs.Machine.Rests.{AnswererRests, AnswererTurns, has_due}
use Rattle.coap_exchange.proofs.Calls.ServerTicks.{idle_room}
use Rattle.coap_exchange.proofs.Calls.WhatIsDue.{takes, asked_answer, asked_same}
use Rattle.coap_exchange.proofs.EndsSaid.AreOutstanding.{waits}
use Rattle.coap_layer.specs.declared.setup.Setup.{Setup}
use Rattle.coap_exchange.proofs.Resting.ClientRests.{or_left, or_right}

-- one more that may be ready
pub grown_ready : (now : ℕ) (xs : List Separate) (ds : List Deferred) (d : Deferred)
    → is_some (first_ready now xs (ds ++ d ∷ [])) ≡ (is_some (first_ready now xs ds) || is_ready now xs d)
grown_ready now xs [] d = alone (is_ready now xs d)
  where
    alone : (b : Bool) → is_some (cond b (Some d) None) ≡ (false || b)
    alone true = refl
    alone false = refl
grown_ready now xs (e ∷ ds) d = go (is_ready now xs e) (grown_ready now xs ds d)
  where
    go : (b : Bool) → is_some (first_ready now xs (ds ++ d ∷ []))
        ≡ (is_some (first_ready now xs ds) || is_ready now xs d)
        → is_some (cond b (Some e) (first_ready now xs (ds ++ d ∷ [])))
        ≡ (is_some (cond b (Some e) (first_ready now xs ds)) || is_ready now xs d)
    go true h = refl
    go false h = h

pub taken_ready : (xs : List Separate) (ds : List Deferred) (i : ℕ) (d : Deferred) (from : ℕ) (m : Option Moment)
    → i < length ds → d ≡ get_or ds i d
    → IsFirstMoment (λ now. is_some (first_ready now xs (take i ds)) || is_ready now xs d) from m
    → IsFirstMoment (λ now. is_some (first_ready now xs (take (i + 1) ds))) from m
taken_ready xs ds i d from m less is h =
    let more : take (i + 1) ds ≡ take i ds ++ d ∷ [] = rw (add-one, take-suc ds i d less, ← is) refl in
    same_first (λ now. is_some (first_ready now xs (take i ds)) || is_ready now xs d)
    (λ now. is_some (first_ready now xs (take (i + 1) ds))) from m
    (λ now le. sym (ap (λ es. is_some (first_ready now xs es)) more ∙ grown_ready now xs (take i ds) d)) h

-- a delay that has passed has passed for good
module _ (xs : List Separate) (now later : ℕ) (le : now ≤ later) where
  le_on : (delay at : ℕ) → nat_le delay (now - at) ≡ true → nat_le delay (later - at) ≡ true
  le_on delay at h = grind (arith, nat_tests, h, le)

  one_on : (d : Deferred) → is_ready now xs d ≡ true → is_ready later xs d ≡ true
  one_on d h =
      let parts = and_parts (nat_le d.delay (now - d.at.0)) (not (is_waited_for d.asked.from xs)) h in
      let on = le_on d.delay d.at.0 parts.0 in
      cc (on, parts.1)

  pub ready_on : (ds : List Deferred) → is_some (first_ready now xs ds) ≡ true → is_some (first_ready later xs ds)
      ≡ true
  ready_on [] h = h
  ready_on (d ∷ ds) h = go (is_ready now xs d) (is_ready later xs d) (one_on d) h (ready_on ds)
    where
      go : (b c : Bool) → (b ≡ true → c ≡ true) → is_some (cond b (Some d) (first_ready now xs ds)) ≡ true
          → (is_some (first_ready now xs ds) ≡ true → is_some (first_ready later xs ds) ≡ true)
          → is_some (cond c (Some d) (first_ready later xs ds)) ≡ true
      go b true f h k = refl
      go true false f h k = absurd (cc (f refl))
      go false false f h k = k h

first_is : (at : ℕ) (xs : List Separate) (ds : List Deferred) (d : Deferred) → first_ready at xs ds ≡ Some d
    → is_ready at xs d ≡ true
first_is at xs [] d h = absurd (cc h)
first_is at xs (e ∷ ds) d h = go (is_ready at xs e) refl h (first_is at xs ds d)
  where
    go : (b : Bool) → is_ready at xs e ≡ b → cond b (Some e) (first_ready at xs ds) ≡ Some d
        → (first_ready at xs ds ≡ Some d → is_ready at xs d ≡ true) → is_ready at xs d ≡ true
    go true is k rest = let same : e ≡ d = cc k in subst (λ (x : Deferred). is_ready at xs x ≡ true) same is
    go false is k rest = rest k

-- one tick
module _ (s new : State) (now : ℕ) (below : T.Answer) (room : Bool) (answer : Due)
    (h : Step s (Ticks now below room answer) new) where
  abbrev ready : Option Deferred
  ready = ready_at s.own now

  pub below_is : below ≡ tick_of (max s.layer.clock now) s.layer.open_cons
  below_is =
      let parts = steps_split s.layer new.layer (asking_room now (ready_if below ready) room)
      (asked now T.Ticks below ∷ []) h.under in
      parts.1.2.right ∙ ap (λ (l : L.State). tick_of (max l.clock now) l.open_cons) parts.1.1

  answer_is : below ≡ T.Idle → answer ≡ due_if ready room
  answer_is idle = h.right ∙ ap (λ b. due_of b ready room) idle

  room_is : (d : Deferred) → ready ≡ Some d → below ≡ T.Idle
      → room ≡ (not (is_busy d.asked.from s.layer.open_cons)
      && is_free (max s.layer.clock now) s.layer.upcoming s.layer.last_used)
  room_is d is idle =
      let parts = steps_split s.layer new.layer (asking_room now (ready_if below ready) room)
      (asked now T.Ticks below ∷ []) h.under in
      let which : ready_if below ready ≡ Some d = ap (λ b. ready_if b ready) idle ∙ is in
      let asks : Steps parts.0 (asking_room now (Some d) room) new.layer =
      subst (λ o. Steps parts.0 (asking_room now o room) new.layer) which parts.2 in
      let tick : L.Step s.layer now T.Ticks T.Idle parts.0 =
      subst (λ a. L.Step s.layer now T.Ticks a parts.0) idle
      (subst (λ l. L.Step l now T.Ticks below parts.0) parts.1.1 parts.1.2) in
      let told : T.Is room ≡ answer_of s.layer (max s.layer.clock now) (T.Room d.asked.from) =
      asks.2.right ∙ (ap (λ (l : L.State). answer_of l (max l.clock now) (T.Room d.asked.from)) asks.1
      ∙ idle_room s.layer parts.0 now d.asked.from tick) in
      cc told

  -- nothing is due
  pub rests_here : s.layer.clock ≡ s.own.clock → has_due s (max s.own.clock now) ≡ false → answer ≡ due.Idle
  rests_here same none =
      let at = max s.own.clock now in
      let quiet : any_has_step at s.layer.open_cons ≡ false = or_left _ _ none in
      let idle : below ≡ T.Idle =
      below_is ∙ (ap (λ n. tick_of (max n now) s.layer.open_cons) same ∙ idle_is at s.layer.open_cons quiet) in
      answer_is idle ∙ go ready refl idle (or_right (any_has_step at s.layer.open_cons) _ none)
    where
      go : (o : Option Deferred) → ready ≡ o → below ≡ T.Idle
          → (is_some o && is_free (max s.own.clock now) s.layer.upcoming s.layer.last_used) ≡ false
          → due_if o room ≡ due.Idle
      go None is idle held = refl
      go (Some d) is idle held =
          let taken : is_free (max s.layer.clock now) s.layer.upcoming s.layer.last_used ≡ false =
          ap (λ n. is_free (max n now) s.layer.upcoming s.layer.last_used) same ∙ held in
          let none : room ≡ false = room_is d is idle
          ∙ (ap (λ f. not (is_busy d.asked.from s.layer.open_cons) && f) taken
          ∙ and_false (not (is_busy d.asked.from s.layer.open_cons))) in
          ap (λ r. due_if (Some d) r) none
        where
          and_false : (b : Bool) → (b && false) ≡ false
          and_false true = refl
          and_false false = refl

  -- something is
  pub stepped : (at : ℕ) (cs : List Open) → tick_of at cs ≢ T.Idle → due_of (tick_of at cs) ready room ≢ due.Idle
  stepped at [] other = absurd (other refl)
  stepped at (c ∷ cs) other = go (is_failed at c) (is_copy_due at c) other (stepped at cs)
    where
      go : (f d : Bool) → cond f (T.Expired c.to c.id) (cond d (T.Copied c.to c.id) (tick_of at cs)) ≢ T.Idle
          → (tick_of at cs ≢ T.Idle → due_of (tick_of at cs) ready room ≢ due.Idle)
          → due_of (cond f (T.Expired c.to c.id) (cond d (T.Copied c.to c.id) (tick_of at cs))) ready room ≢ due.Idle
      go true d o k = λ z. cc z
      go false true o k = λ z. cc z
      go false false o k = k o

  responds : (d : Deferred) → ready ≡ Some d → below ≡ T.Idle → s.layer.clock ≡ s.own.clock
      → is_busy d.asked.from s.layer.open_cons ≡ false
      → is_free (max s.own.clock now) s.layer.upcoming s.layer.last_used ≡ true → answer ≢ due.Idle
  responds d is idle same alone free rest =
      let here : is_free (max s.layer.clock now) s.layer.upcoming s.layer.last_used ≡ true =
      ap (λ n. is_free (max n now) s.layer.upcoming s.layer.last_used) same ∙ free in
      let yes : room ≡ true = room_is d is idle
      ∙ (ap (λ b. not b && is_free (max s.layer.clock now) s.layer.upcoming s.layer.last_used) alone ∙ here) in
      let told : answer ≡ due.Ready d.asked = answer_is idle ∙ (ap (λ o. due_if o room) is
      ∙ ap (λ r. due_if (Some d) r) yes) in
      cc (told, rest)

pub rests : (s : State) (now : ℕ) → s.layer.clock ≡ s.own.clock → has_due s (max s.own.clock now) ≡ false
    → AnswererRests s now
rests s now same none below room answer new h = rests_here s new now below room answer h same none

-- no CON is outstanding where none is waited for
alone_where : (setup : Setup) (t : List Call) (s : State) (to : Endpoint) → Led setup t s
    → is_waited_for to s.own.separate ≡ false → is_busy to s.layer.open_cons ≡ false
alone_where setup t s to led free =
    let law : ResponseLaw setup t = record { rows = led.rows; left = s.layer; layer = led.layer } in
    let known = waits setup t law to in
    let own = led.own_is in
    sym known ∙ (sym (ap (λ (o : Own). is_waited_for to o.separate) own) ∙ free)

pub turns : (setup : Setup) (t : List Call) (s : State) (now : ℕ) → Led setup t s → s.layer.clock ≡ s.own.clock
    → has_due s (max s.own.clock now) ≡ true → AnswererTurns s now
turns setup t s now led same some below room answer new h =
    go (any_has_step (max s.own.clock now) s.layer.open_cons) refl some
  where
    at : ℕ
    at = max s.own.clock now

    here : below ≡ tick_of (max s.own.clock now) s.layer.open_cons
    here = below_is s new now below room answer h ∙ ap (λ n. tick_of (max n now) s.layer.open_cons) same

    ready_one : (o : Option Deferred) → ready_at s.own now ≡ o
        → (is_some o && is_free (max s.own.clock now) s.layer.upcoming s.layer.last_used) ≡ true
        → below ≡ T.Idle → answer ≢ due.Idle
    ready_one None is k idle = absurd (cc k)
    ready_one (Some d) is k idle =
        let ready = first_is (max s.own.clock now) s.own.separate s.own.deferred d is in
        let parts = and_parts (nat_le d.delay (max s.own.clock now - d.at.0))
        (not (is_waited_for d.asked.from s.own.separate)) ready in
        responds s new now below room answer h d is idle same
        (alone_where setup t s d.asked.from led (not_false _ parts.1)) k
      where
        not_false : (b : Bool) → not b ≡ true → b ≡ false
        not_false true z = absurd (cc z)
        not_false false z = refl

    go : (b : Bool) → any_has_step (max s.own.clock now) s.layer.open_cons ≡ b
        → (b || (is_some (ready_at s.own now) && is_free (max s.own.clock now) s.layer.upcoming s.layer.last_used))
        ≡ true
        → answer ≢ due.Idle
    go true step k =
        let other : due_of (tick_of (max s.own.clock now) s.layer.open_cons) (ready_at s.own now) room ≢ due.Idle =
        stepped s new now below room answer h (max s.own.clock now) s.layer.open_cons
        (step_is (max s.own.clock now) s.layer.open_cons step) in
        λ rest. other (sym (h.right ∙ ap (λ b. due_of b (ready_at s.own now) room) here) ∙ rest)
    go false step k = ready_one (ready_at s.own now) refl k (here
        ∙ idle_is (max s.own.clock now) s.layer.open_cons step)

-- .. where calls led to it
module _ (setup : Setup) (t : List Call) (s : State) (led : Led setup t s) (same : s.layer.clock ≡ s.own.clock) where
  pub rests_led : (now : ℕ) → has_due s (max s.own.clock now) ≡ false → AnswererRests s now
  rests_led now none = rests s now same none

  pub turns_led : (now : ℕ) → has_due s (max s.own.clock now) ≡ true → AnswererTurns s now
  turns_led now some = turns setup t s now led same some

-- whether a CON can be sent there, before and after what leaves that
module _ (x y : State) (now : ℕ) (to : Endpoint) (b : Bool) (h : Step x (Ready now to b) y) where
  asked_room : L.Step x.layer now (T.Room to) (T.Is b) y.layer
  asked_room = subst (λ l. L.Step l now (T.Room to) (T.Is b) y.layer) h.under.1 h.under.2

  pub ready_answer : b ≡ takes x.layer now to
  ready_answer = asked_answer x.layer y.layer now to b asked_room

  pub ready_same : (there : Endpoint) → takes y.layer now there ≡ takes x.layer now there
  ready_same = asked_same x.layer y.layer now to b asked_room

module _ (x y : State) (now : ℕ) (below : T.Answer) (room : Bool) (h : Step x (Ticks now below room due.Idle) y) where
  pub idle_below : below ≡ T.Idle
  idle_below = go (any_has_step (max x.layer.clock now) x.layer.open_cons) refl
    where
      go : (b : Bool) → any_has_step (max x.layer.clock now) x.layer.open_cons ≡ b → below ≡ T.Idle
      go false is = below_is x y now below room due.Idle h ∙ idle_is (max x.layer.clock now) x.layer.open_cons is
      go true is = absurd (stepped x y now below room due.Idle h (max x.layer.clock now) x.layer.open_cons
          (step_is (max x.layer.clock now) x.layer.open_cons is)
          (sym (h.right ∙ ap (λ a. due_of a (ready_at x.own now) room) (below_is x y now below room due.Idle h))))

  pub idle_same : (there : Endpoint) → takes y.layer now there ≡ takes x.layer now there
  idle_same there =
      let ready = ready_at x.own now in
      let parts = steps_split x.layer y.layer (asking_room now (ready_if below ready) room)
      (asked now T.Ticks below ∷ []) h.under in
      let tick : L.Step x.layer now T.Ticks T.Idle parts.0 =
      subst (λ a. L.Step x.layer now T.Ticks a parts.0) idle_below
      (subst (λ l. L.Step l now T.Ticks below parts.0) parts.1.1 parts.1.2) in
      let e = idle_room x.layer parts.0 now there tick in
      let mid : takes parts.0 now there ≡ takes x.layer now there = cc e in
      then_same parts.0 (ready_if below ready) parts.2 ∙ mid
    where
      then_same : (mid : L.State) (o : Option Deferred) → Steps mid (asking_room now o room) y.layer
          → takes y.layer now there ≡ takes mid now there
      then_same mid None asks = ap (λ l. takes l now there) asks
      then_same mid (Some d) asks = asked_same asks.0 y.layer now d.asked.from room asks.2 there
          ∙ ap (λ l. takes l now there) asks.1
