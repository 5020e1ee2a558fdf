-- Time passes at the server's side, as the code makes it of the layer's calls.
use Rattle.std.proofs.Common.{◌≡◌, ◌≢◌, cond, ◌⊎◌, inl, inr, ℕ, max, Bool, true, false, Option, Some, None, is_some}
use Rattle.std.proofs.Common.{IfSome, List, [], ◌∷◌, refl, ap, sym, subst, ◌∙◌, ◌&&◌, not, map, arith}
use Rattle.std.specs.Option.{option_map}
use Rattle.coap_types.specs.declared.endpoint.Endpoint.{Endpoint}
use Rattle.coap_types.specs.declared.message.Id.{Id}
use Rattle.coap_layer.specs.Machine.State as L
use Rattle.coap_layer.specs.Machine.Shown as shown
use Rattle.coap_layer.specs.Machine.State.{answer_of, is_busy, is_free, next_after, out_of, uses_after}
use Rattle.coap_layer.specs.Machine.Steps.{Steps}
use Rattle.coap_layer.specs.Trace as T
use Rattle.coap_layer.specs.Machine.Ups.{IsTick}
use Rattle.coap_layer.specs.Words.{issued_by}
use Rattle.coap_layer.specs.declared.up.Tick.{Tick}
use Rattle.coap_layer.specs.declared.up.Tick.TheVariants as tick
use Rattle.coap_exchange.specs.declared.answerer.Asked.{Asked}
use Rattle.coap_exchange.specs.declared.answerer.Due.{Due}
use Rattle.coap_exchange.specs.declared.answerer.Due.TheVariants as due
use Rattle.coap_exchange.specs.declared.answerer.Ended.{Ended}
use Rattle.coap_exchange.specs.declared.listed.Listed.{Listed}
use Rattle.coap_exchange.specs.declared.separate.Deferred.{Deferred}
use Rattle.coap_exchange.specs.declared.separate.Separate.{Separate}
use Rattle.coap_exchange.specs.AnswererLaw.{State, Step}
use Rattle.coap_exchange.specs.Machine.AnswererShown.{Shown, state_of, own_with, AsksFreely, MayRespond}
use Rattle.coap_exchange.specs.AnswererSteps.{asking_room, ready_if, ready_at, first_ready, due_of, due_if, failed_by}
use Rattle.coap_exchange.specs.AnswererSteps.{separate_unless}
use Rattle.coap_exchange.specs.AnswererTrace.{Own, Ticks, Sending}
use Rattle.coap_exchange.specs.AskerRequests.{asked}
use Rattle.coap_exchange.specs.Machine.Listed.{listed}
use Rattle.coap_exchange.specs.Machine.Outstanding.{over}
use Rattle.coap_layer.proofs.Facts.StepsOfLayer.{steps_join}
use Rattle.std.proofs.lemmas.Bool.{and_parts}
use Rattle.coap_layer.specs.Machine.Calls.{entry_of}
use Rattle.coap_layer.proofs.Facts.CallsOfLayer.{step_clock, step_opens, left_same_nil}
use Rattle.coap_exchange.proofs.Calls.Lists.{over_is}
use Rattle.std.proofs.lemmas.Bool.{not-true as not_true}

clock_then : (a n : ℕ) → max (max a n) n ≡ max a n
clock_then a n = omega (arith)

-- a CON can be sent

pub room_idle : (l h : L.State) (now : ℕ) (to : Endpoint) (b : Bool) → L.Step l now (T.Room to) (T.Is b) h → b ≡ true
    → is_busy to h.open_cons ≡ false
room_idle l h now to b step may_be =
    let may : b ≡ (not (is_busy to l.open_cons) && is_free (max l.clock now) l.upcoming l.last_used) = cc step.right in
    let idle : is_busy to l.open_cons ≡ false = not_true (is_busy to l.open_cons)
    (and_parts (not (is_busy to l.open_cons)) (is_free (max l.clock now) l.upcoming l.last_used)
    (sym may ∙ may_be)).0 in
    let same : h.open_cons ≡ l.open_cons =
    step_opens l h now (T.Room to) (T.Is b) step
    ∙ left_same_nil (entry_of (max l.clock now) (T.Room to) (T.Is b) (out_of l (max l.clock now) (T.Room to)))
    (λ c. refl) l.open_cons in
    ap (is_busy to) same ∙ idle

pub room_free : (l h : L.State) (now : ℕ) (to : Endpoint) (b : Bool) → L.Step l now (T.Room to) (T.Is b) h → b ≡ true
    → is_free (max h.clock now) h.upcoming h.last_used ≡ true
room_free l h now to b step may_be =
    let may : b ≡ (not (is_busy to l.open_cons) && is_free (max l.clock now) l.upcoming l.last_used) = cc step.right in
    let free : is_free (max l.clock now) l.upcoming l.last_used
    ≡ true = (and_parts (not (is_busy to l.open_cons)) (is_free (max l.clock now) l.upcoming l.last_used)
    (sym may ∙ may_be)).1 in
    let clock : max h.clock now ≡ max l.clock now = ap (λ c. max c now) (step_clock l h now (T.Room to) (T.Is b) step)
    ∙ clock_then l.clock now in
    let upcoming : h.upcoming ≡ l.upcoming = ap (λ (s : L.State). s.upcoming) step.new_is in
    let uses : h.last_used ≡ l.last_used = ap (λ (s : L.State). s.last_used) step.new_is in
    cc (clock, upcoming, uses, free)

-- an idle tick leaves open whether a CON can be sent

pub idle_room : (old mid : L.State) (now : ℕ) (to : Endpoint) → L.Step old now T.Ticks T.Idle mid
    → answer_of mid (max mid.clock now) (T.Room to) ≡ answer_of old (max old.clock now) (T.Room to)
idle_room old mid now to step =
    let at : ℕ = max old.clock now in
    let clock : max mid.clock now ≡ at = ap (λ c. max c now) (step_clock old mid now T.Ticks T.Idle step)
    ∙ clock_then old.clock now in
    let opens : mid.open_cons ≡ old.open_cons = step_opens old mid now T.Ticks T.Idle step
    ∙ left_same_nil (entry_of at T.Ticks T.Idle (out_of old at T.Ticks)) (λ c. refl) old.open_cons in
    let upcoming : mid.upcoming ≡ old.upcoming = ap (λ (s : L.State). s.upcoming) step.new_is
    ∙ ap (λ a. next_after (issued_by at a) old.upcoming) (sym step.right) in
    let uses : mid.last_used ≡ old.last_used = ap (λ (s : L.State). s.last_used) step.new_is
    ∙ ap (λ a. uses_after (issued_by at a) old.last_used) (sym step.right) in
    cc (clock, opens, upcoming, uses)

-- .. and so to which question no memory is refused
module _ (one two : shown.Shown) (now : ℕ) (tick_is : Tick) (done : T.Answer) (told : IsTick tick_is done)
    (step : L.Step one.state now T.Ticks done two.state) where
  idly : tick_is ≡ tick.Idle → L.Step one.state now T.Ticks T.Idle two.state
  idly e = let idle : done ≡ T.Idle = subst (λ t. IsTick t done) e told in subst
      (λ d. L.Step one.state now T.Ticks d two.state) idle step

  freely : (to : Endpoint) → tick_is ≡ tick.Idle → (one.has_room ≡ true → two.has_room ≡ true) → AsksFreely one now to
      → AsksFreely two now to
  freely to e kept (inl has) = inl (kept has)
  freely to e kept (inr cannot) = inr (idle_room one.state two.state now to (idly e) ∙ cannot)

  pub asks_freely : (ready : Option Asked) → (ready ≡ None) ⊎ (tick_is ≡ tick.Idle)
      → (one.has_room ≡ true → two.has_room ≡ true) → IfSome ready (λ a. AsksFreely one now a.from)
      → IfSome ready (λ a. AsksFreely two now a.from)
  asks_freely None which kept free = tt
  asks_freely (Some a) (inl e) kept free = absurd (cc e)
  asks_freely (Some a) (inr e) kept free = freely a.from e kept free

  -- what was made ready for it stands
  pub placed : (P : Type 0) (ready : Option Asked) → (ready ≡ None) ⊎ (tick_is ≡ tick.Idle) → is_some ready ≡ true
      → IfSome ready (λ a. answer_of one.state (max one.state.clock now) (T.Room a.from) ≡ T.Is true → P)
      → IfSome ready (λ a. answer_of two.state (max two.state.clock now) (T.Room a.from) ≡ T.Is true) → P
  placed P None which some there may = absurd (cc some)
  placed P (Some a) (inl e) some there may = absurd (cc e)
  placed P (Some a) (inr e) some there may = there (sym (idle_room one.state two.state now a.from (idly e)) ∙ may)

-- the deferred request that is ready waits while the layer has a step to do

idle_tick : (t : Tick) (done : T.Answer) → IsTick t done → done ≡ T.Idle → t ≡ tick.Idle
idle_tick tick.Idle done h e = refl
idle_tick (tick.Copied id) done h e = absurd (cc (h.1, e))
idle_tick (tick.Expired to id) done h e = absurd (cc (h, e))

not_idle : (done : T.Answer) (d : Option Deferred) → done ≢ T.Idle → ready_if done d ≡ None
not_idle T.Idle d h = absurd (h refl)
not_idle _ d h = refl

module _ (l from mid : L.State) (now : ℕ) (t : Tick) (done : T.Answer) (same : from ≡ l) (told : IsTick t done)
    (step : L.Step from now T.Ticks done mid) where
  done_is : done ≡ answer_of l (max l.clock now) T.Ticks
  done_is = step.right ∙ ap (λ s. answer_of s (max s.clock now) T.Ticks) same

  pub waits_its_turn : (due : Bool) (was ready : Option Asked)
      → (due ≡ false → answer_of l (max l.clock now) T.Ticks ≡ T.Idle) → ready ≡ cond due None was
      → (ready ≡ None) ⊎ (t ≡ tick.Idle)
  waits_its_turn true was ready idle is = inl is
  waits_its_turn false was ready idle is = inr (idle_tick t done told (done_is ∙ idle refl))

  pub readied : (due : Bool) (was ready : Option Asked) (d : Option Deferred)
      → (due ≡ false → answer_of l (max l.clock now) T.Ticks ≡ T.Idle)
      → (due ≡ true → answer_of l (max l.clock now) T.Ticks ≢ T.Idle) → ready ≡ cond due None was
      → was ≡ option_map (λ (x : Deferred). x.asked) d
      → ready ≡ option_map (λ (x : Deferred). x.asked) (ready_if done d)
  readied true was ready d idle busy is found = is
      ∙ ap (option_map (λ (x : Deferred). x.asked)) (sym (not_idle done d (λ e. busy refl (sym done_is ∙ e))))
  readied false was ready d idle busy is found = is
      ∙ (found ∙ ap (λ a. option_map (λ (x : Deferred). x.asked) (ready_if a d)) (sym (done_is ∙ idle refl)))

-- a failure ends a separate response

pub failed_off : (t : Tick) (to : Endpoint) (id : Id) (answer : T.Answer) (xs new : List (Listed Separate))
    → t ≡ tick.Expired to id → IsTick t answer → new ≡ map (over to id.0) xs
    → listed new ≡ separate_unless answer (listed xs)
failed_off t to id answer xs new e h is =
    let told : answer ≡ T.Expired to id.0 = subst (λ x. IsTick x answer) e h in
    ap listed is ∙ (over_is to id.0 xs ∙ ap (λ a. separate_unless a (listed xs)) (sym told))

-- a tick

pub asking_clock : (now : ℕ) (d : Option Deferred) (room : Bool) (mid h : L.State) (n : ℕ) → mid.clock ≡ max n now
    → Steps mid (asking_room now d room) h → h.clock ≡ max n now
asking_clock now None room mid h n e k = ap (λ (s : L.State). s.clock) k ∙ e
asking_clock now (Some d) room mid h n e k =
    step_clock k.0 h now (T.Room d.asked.from) (T.Is room) k.2
    ∙ (ap (λ (s : L.State). max s.clock now) k.1 ∙ (ap (λ c. max c now) e ∙ clock_then n now))

can_go : (mid h : L.State) (now : ℕ) (d : Option Deferred) (room : Bool) (a : Asked)
    → Steps mid (asking_room now d room) h
    → option_map (λ (d : Deferred). d.asked) d ≡ Some a → room ≡ true
    → (is_busy a.from h.open_cons ≡ false) × (is_free (max h.clock now) h.upcoming h.last_used ≡ true)
can_go mid h now None room a asks is may = absurd (cc is)
can_go mid h now (Some d) room a asks is may =
    let same : d.asked ≡ a = cc is in (
      subst (λ (x : Asked). is_busy x.from h.open_cons ≡ false) same
          (room_idle asks.0 h now d.asked.from room asks.2 may),
      room_free asks.0 h now d.asked.from room asks.2 may,
    )

-- what a deferred request that is said to be ready tells

abbrev pub Readies : T.Answer → Option Deferred → Bool → Asked → Type 0
Readies done d room a = (room ≡ true) × (option_map (λ (d : Deferred). d.asked) d ≡ Some a) × (done ≡ T.Idle)

if_ready : (d : Option Deferred) (room : Bool) (a : Asked) → due_if d room ≡ due.Ready a
    → (room ≡ true) × (option_map (λ (d : Deferred). d.asked) d ≡ Some a)
if_ready (Some d) true a h = let same : d.asked ≡ a = cc h in (refl, ap (λ x. Some x) same)
if_ready _ _ a h = absurd (cc h)

pub due_ready : (done : T.Answer) (d : Option Deferred) (room : Bool) (a : Asked) → due_of done d room ≡ due.Ready a
    → Readies done d room a
due_ready T.Idle d room a h = let k = if_ready d room a h in (k.0, k.1, refl)
due_ready _ d room a h = absurd (cc h)

module _ (l : L.State) (pending : Option Asked) (deferred : List Deferred) (separate : List Separate)
    (ended : Option Ended) (unmatched : Option Sending) where
  abbrev s : Own
  s = own_with l.clock pending deferred separate ended unmatched

  own_same : (a b : ℕ) (xs ys : List Separate) (x y : Option Ended) → a ≡ b → xs ≡ ys → x ≡ y
      → own_with a None deferred xs x unmatched ≡ own_with b None deferred ys y unmatched
  own_same a b xs ys x y e f k = ap (λ c. own_with c None deferred xs x unmatched) e
      ∙ (ap (λ zs. own_with b None deferred zs x unmatched) f ∙ ap (λ z. own_with b None deferred ys z unmatched) k)

  with_none : (old : State) → state_of l pending deferred separate ended unmatched ≡ old
      → (mid h : L.State) (now : ℕ) (done : T.Answer) (room : Bool) (turn : Due) (xs : List Separate)
      (end : Option Ended) → L.Step l now T.Ticks done mid
      → Steps mid (asking_room now (ready_if done (ready_at s now)) room) h → turn ≡ due_of done (ready_at s now) room
      → xs ≡ separate_unless done separate → end ≡ failed_by done separate
      → Step old (Ticks now done room turn) (state_of h None deferred xs end unmatched)
  with_none old is mid h now done room turn xs end step asks turn_is xs_is end_is =
      let clock : h.clock ≡ max l.clock now = asking_clock now (ready_if done (ready_at s now)) room mid h l.clock
      (step_clock l mid now T.Ticks done step) asks in
      subst (λ o. Step o (Ticks now done room turn) (state_of h None deferred xs end unmatched)) is (record {
        right = turn_is;
        own_is = own_same h.clock (max l.clock now) xs (separate_unless done separate) end
            (failed_by done separate) clock xs_is end_is;
        under = steps_join l mid h (asking_room now (ready_if done (ready_at s now)) room) (asked now T.Ticks done ∷ [])
            (l, refl, step) asks;
      })

  pub ticked : (old : State) → state_of l pending deferred separate ended unmatched ≡ old
      → (from mid h : L.State) (now : ℕ) (done : T.Answer) (room : Bool) (turn : Due) (unasked : Option Asked)
      (xs : List Separate) (end : Option Ended) (left : Option Sending) → from ≡ l → L.Step from now T.Ticks done mid
      → Steps mid (asking_room now (ready_if done (ready_at s now)) room) h → turn ≡ due_of done (ready_at s now) room
      → unasked ≡ None → xs ≡ separate_unless done separate → end ≡ failed_by done separate → left ≡ unmatched
      → Step old (Ticks now done room turn) (state_of h unasked deferred xs end left)
  ticked old is from mid h now done room turn unasked xs end left same first asks turn_is none_is xs_is end_is left_is =
      let step : L.Step l now T.Ticks done mid = subst (λ x. L.Step x now T.Ticks done mid) same first in
      subst (λ x. Step old (Ticks now done room turn) (state_of h unasked deferred xs end x)) (sym left_is)
      (subst (λ x. Step old (Ticks now done room turn) (state_of h x deferred xs end unmatched)) (sym none_is)
      (with_none old is mid h now done room turn xs end step asks turn_is xs_is end_is))

  -- what is ready may be responded to
  pub may_respond : (mid h : L.State) (now : ℕ) (done : T.Answer) (room : Bool) (turn : Due) (unasked : Option Asked)
      (xs : List Separate) (end : Option Ended) (left : Option Sending) (shown : Shown) (a : Asked)
      → shown.state ≡ state_of h unasked deferred xs end left → (room ≡ true → shown.room ≡ true)
      → h.clock ≡ max l.clock now → turn ≡ due_of done (ready_at s now) room → xs ≡ separate_unless done separate
      → Steps mid (asking_room now (ready_if done (ready_at s now)) room) h → turn ≡ due.Ready a
      → MayRespond shown now a
  may_respond mid h now done room turn unasked xs end left shown a state_is room_is clock turn_is xs_is asks h_is =
      let k = due_ready done (ready_at s now) room a (sym turn_is ∙ h_is) in
      let at : max h.clock now ≡ max l.clock now = ap (λ c. max c now) clock ∙ clock_then l.clock now in
      let same : xs ≡ separate = xs_is ∙ ap (λ d. separate_unless d separate) k.2 in
      let ready : ready_at (own_with h.clock unasked deferred xs end left) now
      ≡ ready_at s now = ap (λ n. first_ready n xs deferred) at
      ∙ ap (λ ys. first_ready (max l.clock now) ys deferred) same in
      let can = can_go mid h now (ready_if done (ready_at s now)) room a asks
      (ap (λ x. option_map (λ (d : Deferred). d.asked) (ready_if x (ready_at s now))) k.2 ∙ k.1) k.0 in
      record {
        ready = ap (λ (x : State). option_map (λ (d : Deferred). d.asked) (ready_at x.own now)) state_is
            ∙ (ap (option_map (λ (d : Deferred). d.asked)) ready ∙ k.1);
        con = record {
          room = room_is k.0;
          idle = ap (λ (x : State). is_busy a.from x.layer.open_cons) state_is ∙ can.0;
          free = ap (λ (x : State). is_free (max x.layer.clock now) x.layer.upcoming x.layer.last_used) state_is
              ∙ can.1;
        };
      }
