-- When a tick of a client's side does nothing: before the first moment at which its layer has a step or its wait is
-- over.
use Rattle.std.proofs.Common.{◌≡◌, ◌≢◌, inl, inr, ℕ, max, Bool, true, false, Option, Some, None, List, []}
use Rattle.std.proofs.Common.{refl, ap, sym, subst, ◌∙◌, ◌||◌, cond}
use Rattle.coap_types.specs.declared.endpoint.Endpoint.{Endpoint}
use Rattle.coap_layer.specs.Machine.State as L
use Rattle.coap_layer.specs.Machine.State.{tick_of, is_failed, is_copy_due}
use Rattle.coap_layer.specs.Machine.Waits.{any_has_step}
use Rattle.coap_layer.specs.Trace as T
use Rattle.coap_layer.specs.Words.{Open}
use Rattle.coap_layer.proofs.Facts.FirstMoments.{idle_is}
use Rattle.coap_exchange.specs.declared.asker.Event.TheVariants as event
use Rattle.coap_exchange.specs.declared.asker.Exchange.{Exchange}
use Rattle.coap_exchange.specs.declared.asker.Turn.{Turn}
use Rattle.coap_exchange.specs.declared.asker.Turn.TheVariants as turn
use Rattle.coap_exchange.specs.AskerArrivals.{acked_in, has_waited, turn_of}
use Rattle.coap_exchange.specs.AskerFollows.{Begun, last_begun}
use Rattle.coap_exchange.specs.AskerLaw.{Led, State, Step}
use Rattle.coap_exchange.specs.AskerTrace.{Call, Own, Ticks}
use Rattle.coap_exchange.specs.Machine.Outstanding.{Lone}
use Rattle.coap_exchange.specs.Machine.Rests.{AskerRests, AskerTurns, has_turn}
use Rattle.coap_exchange.proofs.Ending.NoEarlier.{fits}
use Rattle.coap_layer.specs.declared.setup.Setup.{Setup}
use Rattle.coap_exchange.proofs.Ending.WhenDue.{own_request}

pub or_left : (b c : Bool) → (b || c) ≡ false → b ≡ false
or_left false c h = refl
or_left true c h = h

pub or_right : (b c : Bool) → (b || c) ≡ false → c ≡ false
or_right false c h = h
or_right true c h = absurd (cc h)

-- what the tick answers
turn_is : (s new : State) (now : ℕ) (below : T.Answer) (answer : Turn) → Step s (Ticks now below answer) new
    → answer ≡ turn_of s.own (max s.own.clock now) (tick_of (max s.layer.clock now) s.layer.open_cons)
turn_is s new now below answer h =
    h.right ∙ ap (turn_of s.own (max s.own.clock now))
    (h.under.2.right ∙ ap (λ (l : L.State). tick_of (max l.clock now) l.open_cons) h.under.1)

idle_turn : (s : Own) (at : ℕ) (cs : List Open) → any_has_step at cs ≡ false → has_waited at (acked_in s.running)
    ≡ false
    → turn_of s at (tick_of at cs) ≡ turn.Idle
idle_turn s at cs none unheard =
    ap (turn_of s at) (idle_is at cs none) ∙ ap (λ b. cond b (turn.End event.NoResponse) turn.Idle) unheard

pub rests : (s : State) (now : ℕ) → s.layer.clock ≡ s.own.clock → has_turn s (max s.own.clock now) ≡ false
    → AskerRests s now
rests s now same none below answer new h =
    let at = max s.own.clock now in
    turn_is s new now below answer h
    ∙ (ap (λ n. turn_of s.own at (tick_of (max n now) s.layer.open_cons)) same
    ∙ idle_turn s.own at s.layer.open_cons (or_left _ _ none)
    (or_right (any_has_step at s.layer.open_cons) _ none))

-- where something is due, it is told
module _ (s : Own) (at : ℕ) where
  expires : (x : Exchange) (to : Endpoint) (id : ℕ) → s.running ≡ Some x → to ≡ s.server → id ≡ x.id.0
      → turn_of s at (T.Expired to id) ≡ turn.End event.Timeout
  expires x to id runs to_is id_is =
      ap (λ e. turn_of s at (T.Expired e id)) to_is
      ∙ (ap (λ n. turn_of s at (T.Expired s.server n)) id_is
      ∙ ap (λ b. cond b (turn.End event.Timeout) turn.Idle) (own_request s x runs))

  stepped : (x : Exchange) (c : Open) (f d : Bool) → s.running ≡ Some x → c.to ≡ s.server → c.id ≡ x.id.0
      → (f || d) ≡ true → turn_of s at (cond f (T.Expired c.to c.id) (cond d (T.Copied c.to c.id) T.Idle)) ≢ turn.Idle
  stepped x c true d runs to_is id_is h k = cc (k, expires x c.to c.id runs to_is id_is)
  stepped x c false true runs to_is id_is h k = cc k
  stepped x c false false runs to_is id_is h k = cc h

  or_false : (b : Bool) → (b || false) ≡ b
  or_false true = refl
  or_false false = refl

  waited : has_waited at (acked_in s.running) ≡ true → turn_of s at (tick_of at []) ≢ turn.Idle
  waited h k = cc (k, ap (λ b. cond b (turn.End event.NoResponse) turn.Idle) h)

  runs_one : (b : Option Begun) (cs : List Open) (x : Exchange) → s.running ≡ Some x → Lone s.server (Some x) b cs
      → (any_has_step at cs || has_waited at (acked_in s.running)) ≡ true → turn_of s at (tick_of at cs) ≢ turn.Idle
  runs_one b cs x runs (inl z) h =
      let unheard : has_waited at (acked_in s.running) ≡ false =
      ap (λ r. has_waited at (acked_in r)) runs ∙ ap (has_waited at) z.unheard in
      let step : (is_failed at z.con || is_copy_due at z.con) ≡ true =
      sym (ap (λ ds. any_has_step at ds || has_waited at (acked_in s.running)) z.only
      ∙ (ap (λ w. ((is_failed at z.con || is_copy_due at z.con) || false) || w) unheard
      ∙ (or_false _ ∙ or_false _))) ∙ h in
      subst (λ (ds : List Open). turn_of s at (tick_of at ds) ≢ turn.Idle) (sym z.only)
      (stepped x z.con (is_failed at z.con) (is_copy_due at z.con) runs z.to_is z.id_is step)
  runs_one b cs x runs (inr z) h =
      subst (λ (ds : List Open). turn_of s at (tick_of at ds) ≢ turn.Idle) (sym z.none)
      (waited (sym (ap (λ ds. any_has_step at ds || has_waited at (acked_in s.running)) z.none) ∙ h))

  turns_where : (b : Option Begun) (cs : List Open) (o : Option Exchange) → s.running ≡ o → Lone s.server o b cs
      → (any_has_step at cs || has_waited at (acked_in s.running)) ≡ true → turn_of s at (tick_of at cs) ≢ turn.Idle
  turns_where b cs None runs lone h =
      let none : (any_has_step at cs || has_waited at (acked_in s.running)) ≡ false =
      ap (λ ds. any_has_step at ds || has_waited at (acked_in s.running)) lone
      ∙ ap (λ r. has_waited at (acked_in r)) runs in
      absurd (cc (h, none))
  turns_where b cs (Some x) runs lone h = runs_one b cs x runs lone h

pub turns : (server : Endpoint) (setup : Setup) (t : List Call) (s : State) (now : ℕ) → Led server setup t s
    → s.layer.clock ≡ s.own.clock → has_turn s (max s.own.clock now) ≡ true → AskerTurns s now
turns server setup t s now led same due below answer new h is =
    let under = fits server setup t led.rows s.layer led.layer in
    let lone : Lone s.own.server s.own.running (last_begun server setup t) s.layer.open_cons =
    subst (λ (o : Own). Lone o.server o.running (last_begun server setup t) s.layer.open_cons) (sym led.own_is)
    under.lone in
    let at = max s.own.clock now in
    turns_where s.own at (last_begun server setup t) s.layer.open_cons s.own.running refl lone due
    (ap (λ n. turn_of s.own at (tick_of (max n now) s.layer.open_cons)) (sym same)
    ∙ (sym (turn_is s new now below answer h) ∙ is))

-- .. where calls led to it
module _ (server : Endpoint) (setup : Setup) (t : List Call) (s : State) (led : Led server setup t s) where
  pub clocks : s.layer.clock ≡ s.own.clock
  clocks = (fits server setup t led.rows s.layer led.layer).clock ∙ ap (λ (o : Own). o.clock) (sym led.own_is)

  pub rests_led : (now : ℕ) → has_turn s (max s.own.clock now) ≡ false → AskerRests s now
  rests_led now none = rests s now clocks none

  pub turns_led : (now : ℕ) → has_turn s (max s.own.clock now) ≡ true → AskerTurns s now
  turns_led now due = turns server setup t s now led clocks due
