-- A CON that can be sent can still be sent after a call that sends nothing.
use Rattle.std.proofs.Common.{◌≡◌, ◌≤◌, ℕ, ◌+◌, nat_lt, max, Bool, true, false, Option, Some, None}
use Rattle.std.proofs.Common.{List, [], ◌∷◌, ◌++◌, length, cond, option_to_list, refl, ap, sym, subst, ◌∙◌, ◌||◌}
use Rattle.std.proofs.Common.{arith}
use Rattle.std.proofs.lemmas.Bool.Decides.{nat_tests}
use Rattle.std.specs.List.{filter_map, cons_option}
use Rattle.std.proofs.lemmas.List.{append-nil, length-append}
use Rattle.coap_types.specs.declared.endpoint.Endpoint.{Endpoint}
use Rattle.coap_types.specs.declared.transmission.TheConstants.{ID_REUSE_AFTER_MS as id_reuse_after}
use Rattle.coap_layer.specs.Machine.State as L
use Rattle.coap_layer.specs.Machine.State.{is_busy, is_free, is_rested, moment, next_after, out_of, uses_after}
use Rattle.coap_layer.specs.Trace as T
use Rattle.coap_layer.specs.Trace.{Entry}
use Rattle.coap_layer.specs.Machine.Steps.{Steps}
use Rattle.coap_layer.specs.Words.{Open, left_by, begun_in, ends_in, copies_in, issued_by}
use Rattle.coap_layer.specs.Machine.Ups.{IsTick}
use Rattle.coap_layer.specs.declared.up.Tick.{Tick}
use Rattle.coap_layer.specs.declared.up.Tick.TheVariants as tick
use Rattle.coap_types.specs.SameEndpoint.{same_endpoint}
use Rattle.coap_exchange.specs.declared.separate.Deferred.{Deferred}
use Rattle.coap_exchange.specs.AnswererSteps.{asking_room}
use Rattle.coap_exchange.specs.AskerArrivals.{replying}
use Rattle.coap_exchange.specs.Machine.AnswererShown.{Shown, MayNotify}
use Rattle.coap_layer.specs.Machine.Calls.{entry_of}
use Rattle.coap_layer.proofs.Facts.CallsOfLayer.{step_clock, step_opens}

-- a Message ID that is free stays free
lt_later : (last now later : ℕ) → now ≤ later → nat_lt (last + id_reuse_after) now ≡ true
    → nat_lt (last + id_reuse_after) later ≡ true
lt_later last now later le h = grind (arith, nat_tests)

rested_later : (now later : ℕ) (used : Option (Option ℕ)) → now ≤ later → is_rested now used ≡ true
    → is_rested later used ≡ true
rested_later now later (Some (Some last)) le h = lt_later last now later le h
rested_later now later _ le h = refl

either : (a b c : Bool) → (b ≡ true → c ≡ true) → (a || b) ≡ true → (a || c) ≡ true
either true b c f h = refl
either false b c f h = f h

pub free_later : (now later n : ℕ) (uses : List (Option ℕ)) → now ≤ later → is_free now n uses ≡ true
    → is_free later n uses ≡ true
free_later now later n uses le h = either _ _ _ (rested_later now later _ le) h

-- where no CON to an endpoint is outstanding, none is after some have ended or were sent again

idle_by : (at : ℕ) (to : Endpoint) (c : Open) (b ends copies : Bool) (rest : List Open) → same_endpoint c.to to ≡ b
    → b ≡ false → is_busy to rest ≡ false
    → is_busy to (cons_option (cond ends None (cond copies (Some (record c { last = at })) (Some c))) rest) ≡ false
idle_by at to c b true copies rest e h k = k
idle_by at to c b false true rest e h k = cc (e, h, k)
idle_by at to c b false false rest e h k = cc (e, h, k)

neither : (x y : Bool) → (x || y) ≡ false → (x ≡ false) × (y ≡ false)
neither true y h = absurd (cc h)
neither false y h = (refl, h)

idle_left : (e : Entry) (to : Endpoint) (cs : List Open) → is_busy to cs ≡ false
    → is_busy to (filter_map (left_by e) cs) ≡ false
idle_left e to [] h = refl
idle_left e to (c ∷ cs) h =
    let k = neither (same_endpoint c.to to) (is_busy to cs) h in
    idle_by e.at to c (same_endpoint c.to to) (ends_in e.call e.answer c.to c.id) (copies_in e.call e.answer c.to c.id)
    (filter_map (left_by e) cs) refl k.0 (idle_left e to cs k.1)

-- a CON can be sent there
pub record MayConfirm (l : L.State) (at : ℕ) (to : Endpoint) : Type 0 where
  pub idle : is_busy to l.open_cons ≡ false
  pub free : is_free (max l.clock at) l.upcoming l.last_used ≡ true

-- a call of the layer that begins none and gives no Message ID
module _ (old new : L.State) (now : ℕ) (call : T.Call) (answer : T.Answer) (step : L.Step old now call answer new) where
  pub record IsStill : Type 0 where
    pub begun : (at : ℕ) → begun_in at call answer ≡ None
    pub given : (at : ℕ) → issued_by at answer ≡ []
    pub later : old.clock ≤ moment old now call

  module _ (still : IsStill) where
    idle : (to : Endpoint) → is_busy to old.open_cons ≡ false → is_busy to new.open_cons ≡ false
    idle to h =
        let at : ℕ = moment old now call in
        let e = entry_of at call answer (out_of old at call) in
        ap (is_busy to) (step_opens old new now call answer step)
        ∙ (ap (λ o. is_busy to (filter_map (left_by e) old.open_cons ++ option_to_list o)) (still.begun at)
        ∙ (ap (is_busy to) (append-nil (filter_map (left_by e) old.open_cons)) ∙ idle_left e to old.open_cons h))

    upcoming : new.upcoming ≡ old.upcoming
    upcoming =
        let at : ℕ = moment old now call in
        ap (λ (s : L.State). s.upcoming) step.new_is
        ∙ (ap (λ a. next_after (issued_by at a) old.upcoming) (sym step.right)
        ∙ ap (λ gs. next_after gs old.upcoming) (still.given at))

    uses : new.last_used ≡ old.last_used
    uses =
        let at : ℕ = moment old now call in
        ap (λ (s : L.State). s.last_used) step.new_is
        ∙ (ap (λ a. uses_after (issued_by at a) old.last_used) (sym step.right)
        ∙ ap (λ gs. uses_after gs old.last_used) (still.given at))

    pub still_confirms : (m : ℕ) (to : Endpoint) → MayConfirm old m to → MayConfirm new m to
    still_confirms m to may =
        let clock : old.clock ≤ new.clock = let k = step_clock old new now call answer step in let l =
        still.later in omega (arith, k, l) in
        let then_free : is_free (max new.clock m) old.upcoming old.last_used
        ≡ true = free_later (max old.clock m) (max new.clock m) old.upcoming old.last_used
        (omega (arith, clock)) may.free in
        record {
          idle = idle to may.idle;
          free = ap (λ n. is_free (max new.clock m) n new.last_used) upcoming
              ∙ (ap (λ xs. is_free (max new.clock m) old.upcoming xs) uses ∙ then_free);
        }

-- of the server's side
pub may_still : (one two : Shown) (old new : L.State) (m : ℕ) (to : Endpoint) → one.state.layer ≡ old
    → two.state.layer ≡ new → (one.room ≡ true → two.room ≡ true) → (MayConfirm old m to → MayConfirm new m to)
    → MayNotify one m to → MayNotify two m to
may_still one two old new m to one_is two_is room on may =
    let then = on (subst (λ l. MayConfirm l m to) one_is (record { idle = may.idle; free = may.free })) in
    record {
      room = room may.room;
      idle = ap (λ (s : L.State). is_busy to s.open_cons) two_is ∙ then.idle;
      free = ap (λ (s : L.State). is_free (max s.clock m) s.upcoming s.last_used) two_is ∙ then.free;
    }

pub still_may : (old new : L.State) (now : ℕ) (call : T.Call) (answer : T.Answer)
    (step : L.Step old now call answer new) → IsStill old new now call answer step
    → (one two : Shown) (m : ℕ) (to : Endpoint) → one.state.layer ≡ old → two.state.layer ≡ new
    → (one.room ≡ true → two.room ≡ true) → MayNotify one m to → MayNotify two m to
still_may old new now call answer step still one two m to one_is two_is room may =
    may_still one two old new m to one_is two_is room (still_confirms old new now call answer step still m to) may

-- a tick, and asking whether there is room
tick_gives : (t : Tick) (done : T.Answer) (at : ℕ) → IsTick t done → issued_by at done ≡ []
tick_gives (tick.Copied id) done at h = ap (issued_by at) h.1
tick_gives _ done at h = ap (issued_by at) h

tick_confirms : (l from mid : L.State) (now : ℕ) (t : Tick) (done : T.Answer) → from ≡ l → IsTick t done
    → L.Step from now T.Ticks done mid → (m : ℕ) (to : Endpoint) → MayConfirm l m to → MayConfirm mid m to
tick_confirms l from mid now t done e told step m to may =
    still_confirms from mid now T.Ticks done step
    (record { begun = λ at. refl; given = λ at. tick_gives t done at told; later = omega arith }) m to
    (subst (λ s. MayConfirm s m to) (sym e) may)

pub ticked_confirms : (l from mid h : L.State) (now : ℕ) (t : Tick) (done : T.Answer) (d : Option Deferred)
    (room : Bool) → from ≡ l → IsTick t done → L.Step from now T.Ticks done mid → Steps mid (asking_room now d room) h
    → (m : ℕ) (to : Endpoint) → MayConfirm l m to → MayConfirm h m to
ticked_confirms l from mid h now t done None room e told step asks m to may =
    subst (λ s. MayConfirm s m to) (sym asks) (tick_confirms l from mid now t done e told step m to may)
ticked_confirms l from mid h now t done (Some d) room e told step asks m to may =
    still_confirms asks.0 h now (T.Room d.asked.from) (T.Is room) asks.2
    (record { begun = λ at. refl; given = λ at. refl; later = omega arith }) m to
    (subst (λ s. MayConfirm s m to) (sym asks.1) (tick_confirms l from mid now t done e told step m to may))

-- what is rejected goes out
queued : (old new : L.State) (now : ℕ) (from : Endpoint) (bytes : List ℕ) (up : T.Answer)
    → L.Step old now (T.Receive from bytes) up new → length old.queue ≤ length new.queue
queued old new now from bytes up step =
    let q : new.queue ≡ old.queue ++ out_of old (moment old now (T.Receive from bytes)) (T.Receive from bytes) =
    ap (λ (s : L.State). s.queue) step.new_is in
    let n = ap length q ∙ length-append old.queue
    (out_of old (moment old now (T.Receive from bytes)) (T.Receive from bytes)) in
    omega (arith, n)

pub none_rejected : (old mid h : L.State) (now : ℕ) (from : Endpoint) (bytes : List ℕ) (up : T.Answer) (id : ℕ)
    (o : Option (List ℕ)) → L.Step old now (T.Receive from bytes) up mid → Steps mid (replying from id o) h
    → h.queue ≡ old.queue → o ≡ None
none_rejected old mid h now from bytes up id None step asks same = refl
none_rejected old mid h now from bytes up id (Some b) step asks same =
    let before = queued old mid now from bytes up step in
    let then : h.queue ≡ asks.0.queue ++ record { to = from; bytes = b } ∷ [] =
    ap (λ (s : L.State). s.queue) asks.2.new_is in
    let n = ap length then ∙ length-append asks.0.queue (record { to = from; bytes = b } ∷ []) in
    let m = ap (λ (s : L.State). length s.queue) asks.1 in
    let k = ap length same in
    absurd (omega (arith, before, n, m, k))
