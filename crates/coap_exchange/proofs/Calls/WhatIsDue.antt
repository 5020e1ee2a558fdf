-- Where a CON can be sent is the same after it was asked about, and after a tick for which nothing was due.
use Rattle.std.proofs.Common.{◌≡◌, ◌≢◌, ℕ, max, Bool, true, false, cond, Option, Some, None, List, [], ◌∷◌, is_some}
use Rattle.std.proofs.Common.{◌&&◌, not, refl, ap, sym, subst, ◌∙◌, arith}
use Rattle.std.proofs.lemmas.Bool.{and_parts}
use Rattle.std.specs.Option.{option_map}
use Rattle.coap_types.specs.declared.endpoint.Endpoint.{Endpoint}
use Rattle.coap_layer.specs.Machine.State as L
use Rattle.coap_layer.specs.Machine.State.{answer_of, copies, is_busy, is_copy_due, is_failed, is_free, out_of, tick_of}
use Rattle.coap_layer.specs.Machine.Steps.{Steps}
use Rattle.coap_layer.specs.Machine.Ups.{IsTick}
use Rattle.coap_layer.specs.Trace as T
use Rattle.coap_layer.specs.Words.{Open}
use Rattle.coap_layer.specs.declared.up.Tick.{Tick}
use Rattle.coap_layer.specs.declared.up.Tick.TheVariants as tick
use Rattle.coap_layer.specs.Machine.Calls.{entry_of}
use Rattle.coap_layer.proofs.Facts.CallsOfLayer.{step_clock, step_opens, left_same_nil}
use Rattle.coap_exchange.specs.declared.answerer.Asked.{Asked}
use Rattle.coap_exchange.specs.declared.answerer.Due.TheVariants as due
use Rattle.coap_exchange.specs.declared.separate.Deferred.{Deferred}
use Rattle.coap_exchange.specs.AnswererSteps.{asking_room, due_of, ready_if}
use Rattle.coap_exchange.proofs.Calls.ServerTicks.{due_ready, idle_room}

abbrev pub takes : L.State → ℕ → Endpoint → Bool
takes l now to = not (is_busy to l.open_cons) && is_free (max l.clock now) l.upcoming l.last_used

-- it was asked about
module _ (l h : L.State) (now : ℕ) (to : Endpoint) (b : Bool) (step : L.Step l now (T.Room to) (T.Is b) h) where
  pub asked_answer : b ≡ takes l now to
  asked_answer = cc step.right

  pub asked_same : (there : Endpoint) → takes h now there ≡ takes l now there
  asked_same there =
      let at : ℕ = max l.clock now in
      let later = step_clock l h now (T.Room to) (T.Is b) step in
      let clock : max h.clock now ≡ at = omega (arith, later) in
      let opens : h.open_cons ≡ l.open_cons = step_opens l h now (T.Room to) (T.Is b) step
      ∙ left_same_nil (entry_of at (T.Room to) (T.Is b) (out_of l at (T.Room to))) (λ c. refl) l.open_cons in
      let upcoming : h.upcoming ≡ l.upcoming = ap (λ (s : L.State). s.upcoming) step.new_is in
      let uses : h.last_used ≡ l.last_used = ap (λ (s : L.State). s.last_used) step.new_is in
      cc (clock, opens, upcoming, uses)

-- time passed
module _ (l from mid h : L.State) (now : ℕ) (t : Tick) (done : T.Answer) (d : Option Deferred) (room : Bool)
    (same : from ≡ l) (told : IsTick t done) (step : L.Step from now T.Ticks done mid) where
  idle_same : done ≡ T.Idle → (there : Endpoint) → takes mid now there ≡ takes l now there
  idle_same idle there =
      let e = idle_room from mid now there (subst (λ a. L.Step from now T.Ticks a mid) idle step) in
      let was : takes mid now there ≡ takes from now there = cc e in
      was ∙ ap (λ s. takes s now there) same

  asking_same : (o : Option Deferred) → Steps mid (asking_room now o room) h → (there : Endpoint)
      → takes h now there ≡ takes mid now there
  asking_same None asks there = ap (λ s. takes s now there) asks
  asking_same (Some x) asks there = asked_same asks.0 h now x.asked.from room asks.2 there
      ∙ ap (λ s. takes s now there) asks.1

  is_idle : (k : Tick) → IsTick k done → due_of done d room ≡ due.Idle → done ≡ T.Idle
  is_idle tick.Idle is e = is
  is_idle (tick.Copied id) is e = let other : due_of done d room
      ≡ due.Copied = ap (λ a. due_of a d room) is.1 in absurd (cc (other, e))
  is_idle (tick.Expired to id) is e = let other : due_of done d room
      ≡ due.Expired = ap (λ a. due_of a d room) is in absurd (cc (other, e))

  pub ticked_same : Steps mid (asking_room now (ready_if done d) room) h → due_of done d room ≡ due.Idle
      → (there : Endpoint) → takes h now there ≡ takes l now there
  ticked_same asks e there = asking_same (ready_if done d) asks there ∙ idle_same (is_idle t told e) there

  is_free_then : (o : Option Deferred) (a : Asked) → Steps mid (asking_room now o room) h → room ≡ true → done ≡ T.Idle
      → is_some o ≡ true
      → (is_some o && is_free (max l.clock now) l.upcoming l.last_used) ≡ true
  is_free_then None a asks may idle some = absurd (cc some)
  is_free_then (Some x) a asks may idle some =
      let to = x.asked.from in
      let can : takes l now to ≡ true = sym (idle_same idle to)
      ∙ (ap (λ s. takes s now to) (sym asks.1) ∙ (sym (asked_answer asks.0 h now to room asks.2) ∙ may)) in
      (and_parts (not (is_busy to l.open_cons)) (is_free (max l.clock now) l.upcoming l.last_used) can).1

  some_is : (o : Option Deferred) (a : Asked) → option_map (λ (x : Deferred). x.asked) o ≡ Some a → is_some o ≡ true
  some_is None a e = absurd (cc e)
  some_is (Some x) a e = refl

  pub ticked_ready : (a : Asked) → Steps mid (asking_room now (ready_if done d) room) h
      → due_of done d room ≡ due.Ready a
      → (is_some d && is_free (max l.clock now) l.upcoming l.last_used) ≡ true
  ticked_ready a asks e =
      let k = due_ready done d room a e in
      let first : ready_if done d ≡ d = ap (λ b. ready_if b d) k.2 in
      is_free_then d a (subst (λ o. Steps mid (asking_room now o room) h) first asks) k.0 k.2 (some_is d a k.1)

-- where something is due and no copy, it is a failure
abbrev IsFailure : List T.Packet → T.Answer → Type 0
IsFailure sent answer = sent ≡ [] → answer ≢ T.Idle → (to : Endpoint) × (id : ℕ) × (answer ≡ T.Expired to id)

not_copied : (at : ℕ) (cs : List Open) → IsFailure (copies at cs) (tick_of at cs)
not_copied at [] none due = absurd (due refl)
not_copied at (c ∷ cs) none due = by (is_failed at c) (is_copy_due at c) (not_copied at cs) none due
  where
    by : (f d : Bool) → IsFailure (copies at cs) (tick_of at cs)
        → IsFailure (cond f [] (cond d (record { to = c.to; bytes = c.bytes } ∷ []) (copies at cs)))
        (cond f (T.Expired c.to c.id) (cond d (T.Copied c.to c.id) (tick_of at cs)))
    by true d rest none due = (c.to, c.id, refl)
    by false true rest none due = absurd (cc none)
    by false false rest none due = rest none due

pub expires : (l from mid : L.State) (now : ℕ) (done : T.Answer) (d : Option Deferred) (room : Bool) → from ≡ l
    → L.Step from now T.Ticks done mid
    → copies (max l.clock now) l.open_cons ≡ [] → answer_of l (max l.clock now) T.Ticks ≢ T.Idle
    → due_of done d room ≡ due.Expired
expires l from mid now done d room same step none due =
    let k = not_copied (max l.clock now) l.open_cons none due in
    let is : done ≡ T.Expired k.0 k.1 = step.right ∙ (ap (λ s. answer_of s (max s.clock now) T.Ticks) same ∙ k.2) in
    ap (λ a. due_of a d room) is
