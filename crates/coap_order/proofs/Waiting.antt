-- What a layer does depends on nothing that waits; and what a taking leaves.
use Rattle.std.proofs.Common.{◌≡◌, ℕ, Option, List, [], ◌∷◌, ◌++◌, refl, ap, sym, ◌∙◌, subst, drop, map}
use Rattle.std.proofs.Common.{append_assoc, filter, cond, Bool, true, false, slice_get}
use Rattle.std.proofs.lemmas.List.{append-nil}
use Rattle.std.specs.List.{filter_map}
use Rattle.coap_layer.specs.Trace.{Gives}
use Rattle.coap_layer.specs.declared.setup.Setup.{Setup}
use Rattle.coap_layer.specs.Words.{Open, left_by}
use Rattle.coap_layer.specs.Machine.State.{Arrived, is_live, start, stores}
use Rattle.coap_layer.proofs.Facts.CallsOfLayer.{left_same_nil}
use Rattle.coap_layer.proofs.Facts.StepsOfLayer.{one_left}
use Rattle.coap_types.specs.declared.endpoint.Endpoint.{Endpoint}
use Rattle.coap_layer.specs.Arrivals.{Arrival, Unreadable, Faulted, Whole, arrival_at}
use Rattle.coap_layer.specs.Trace.{Packet, Call, Receive, Reply, Confirm, Plain, Settle, Ticks, Take, Room, AsksFree}
use Rattle.coap_layer.specs.Trace.{Pass, Disposition, Dropped, Replayed, Rejected, Request, Response, Acked, Reset}
use Rattle.coap_layer.specs.Trace.{Unmatched, Answer, Becomes, Entry}
use Rattle.coap_layer.specs.Words.{Incoming, takes_in}
use Rattle.coap_layer.specs.Machine.State.{State, May, Step, after, answer_of, answer_to, forgotten, made, moment}
use Rattle.coap_layer.specs.Machine.State.{out_of}
use Rattle.coap_layer.specs.Machine.State.{out_to, replay, sorted_by}
use Rattle.coap_layer.specs.Machine.Steps.{Asked, Steps, left_after}
use Rattle.coap_layer.proofs.Facts.Calls.{steps_left}
use Rattle.coap_order.specs.Queue.{NoneTakes, made_by, outs, with_queue}

module _ (q : List Packet) (s : State) where
  may_still : (call : Call) → May s call → May (with_queue q s) call
  may_still (Receive from bytes) k = k
  may_still (Reply to id bytes) k = k
  may_still (Confirm to content word) k = k
  may_still (Plain to content) k = k
  may_still (Settle to id) k = k
  may_still Ticks k = k
  may_still Take k = k
  may_still (Room to) k = k
  may_still AsksFree k = k
  may_still Pass k = k

  same_moment : (now : ℕ) (call : Call) → moment (with_queue q s) now call ≡ moment s now call
  same_moment now (Receive from bytes) = refl
  same_moment now (Reply to id bytes) = refl
  same_moment now (Confirm to content word) = refl
  same_moment now (Plain to content) = refl
  same_moment now (Settle to id) = refl
  same_moment now Ticks = refl
  same_moment now Take = refl
  same_moment now (Room to) = refl
  same_moment now AsksFree = refl
  same_moment now Pass = refl

  module _ (at : ℕ) where
    same_answer_to : (from : Endpoint) (what : Arrival) → answer_to (with_queue q s) at from what
        ≡ answer_to s at from what
    same_answer_to from Unreadable = refl
    same_answer_to from (Faulted kind id) = refl
    same_answer_to from (Whole m) = refl

    same_replay : (m : Incoming) (u : Disposition) → replay (with_queue q s) at m u ≡ replay s at m u
    same_replay m Replayed = refl
    same_replay m Dropped = refl
    same_replay m Rejected = refl
    same_replay m (Request x b) = refl
    same_replay m (Response x) = refl
    same_replay m (Acked id) = refl
    same_replay m (Reset id) = refl
    same_replay m (Unmatched id) = refl

    same_out_to : (from : Endpoint) (what : Arrival) → out_to (with_queue q s) at from what ≡ out_to s at from what
    same_out_to from Unreadable = refl
    same_out_to from (Faulted kind id) = refl
    same_out_to from (Whole m) = same_replay (record { from = from; message = m })
        (sorted_by s at (record { from = from; message = m }))

    same_answer : (call : Call) → takes_in call ≡ 0 → answer_of (with_queue q s) at call ≡ answer_of s at call
    same_answer (Receive from bytes) e = ap Becomes (same_answer_to from (arrival_at bytes))
    same_answer (Reply to id bytes) e = refl
    same_answer (Confirm to content word) e = refl
    same_answer (Plain to content) e = refl
    same_answer (Settle to id) e = refl
    same_answer Ticks e = refl
    same_answer Take e = absurd (cc e)
    same_answer (Room to) e = refl
    same_answer AsksFree e = refl
    same_answer Pass e = refl

    same_out : (call : Call) → out_of (with_queue q s) at call ≡ out_of s at call
    same_out (Receive from bytes) = same_out_to from (arrival_at bytes)
    same_out (Reply to id bytes) = refl
    same_out (Confirm to content word) = refl
    same_out (Plain to content) = refl
    same_out (Settle to id) = refl
    same_out Ticks = refl
    same_out Take = refl
    same_out (Room to) = refl
    same_out AsksFree = refl
    same_out Pass = refl

  same_made : (now : ℕ) (call : Call) → takes_in call ≡ 0 → made (with_queue q s) now call ≡ made s now call
  same_made now call e =
      ap (λ (at : ℕ). record {
        at = at;
        call = call;
        answer = answer_of (with_queue q s) at call;
        out = out_of (with_queue q s) at call;
      }) (same_moment now call)
      ∙ ap (λ (a : Answer). record {
        at = moment s now call;
        call = call;
        answer = a;
        out = out_of (with_queue q s) (moment s now call) call;
      }) (same_answer (moment s now call) call e)
      ∙ ap (λ (o : List Packet). record {
        at = moment s now call;
        call = call;
        answer = answer_of s (moment s now call) call;
        out = o;
      }) (same_out (moment s now call) call)

-- a call that takes nothing
step_with : (q : List Packet) (old new : State) (a : Asked) → takes_in a.call ≡ 0 → Step old a.now a.call a.answer new
    → Step (with_queue q old) a.now a.call a.answer (with_queue (q ++ made_by old a) new)
step_with q old new a e h =
    let at : ℕ = moment old a.now a.call in
    record {
      may = may_still q old a.call h.may;
      right = h.right ∙ sym (same_answer q old at a.call e)
          ∙ ap (λ (n : ℕ). answer_of (with_queue q old) n a.call) (sym (same_moment q old a.now a.call));
      new_is = ap (with_queue (q ++ made_by old a)) h.new_is
          ∙ ap (λ (n : ℕ). with_queue (drop n q ++ made_by old a)
          (forgotten (after old (made old a.now a.call)))) (sym e)
          ∙ ap (λ (x : Entry). forgotten (after (with_queue q old) x)) (sym (same_made q old a.now a.call e));
    }

-- several
pub steps_with : (q : List Packet) (old new : State) (asks : List Asked) → NoneTakes asks → Steps old asks new
    → Steps (with_queue q old) asks (with_queue (q ++ outs old asks) new)
steps_with q old new [] none h =
    subst (λ (r : List Packet). with_queue r new ≡ with_queue q old) (sym (append-nil q)) (ap (with_queue q) h)
steps_with q old new (a ∷ earlier) none h =
    let left : h.0 ≡ left_after old earlier = steps_left old earlier h.0 h.1 in (
      with_queue (q ++ outs old earlier) h.0,
      steps_with q old h.0 earlier none.1 h.1,
      subst (λ (r : List Packet). Step (with_queue (q ++ outs old earlier) h.0) a.now a.call a.answer
          (with_queue r new))
          (append_assoc q (outs old earlier) (made_by h.0 a)
          ∙ ap (λ (s : State). q ++ (outs old earlier ++ made_by s a)) left)
          (step_with (q ++ outs old earlier) h.0 new a none.0 h.2),
    )

-- what waits then: theirs, behind what waited
pub queue_then : (old new : State) (asks : List Asked) → NoneTakes asks → Steps old asks new
    → new.queue ≡ old.queue ++ outs old asks
queue_then old new asks none h =
    ap (λ (s : State). s.queue) (one_left old asks new (with_queue (old.queue ++ outs old asks) new) h
    (steps_with old.queue old new asks none h))

-- several lists of calls, none of which takes anything
pub none_both : (later earlier : List Asked) → NoneTakes later → NoneTakes earlier → NoneTakes (later ++ earlier)
none_both [] earlier h k = k
none_both (a ∷ later) earlier h k = (h.0, none_both later earlier h.1 k)

-- nothing is kept that is no longer live
abbrev pub IsNeat : State → Type 0
IsNeat s = forgotten s ≡ s

pub neat_start : (setup : Setup) → IsNeat (start setup)
neat_start setup = refl

filter_twice : {A : Type 0} (p : A → Bool) (xs : List A) → filter p (filter p xs) ≡ filter p xs
filter_twice p [] = refl
filter_twice p (x ∷ xs) = go (p x) refl (filter_twice p xs)
  where
    go : (b : Bool) → p x ≡ b → filter p (filter p xs) ≡ filter p xs
        → filter p (cond b (x ∷ filter p xs) (filter p xs)) ≡ cond b (x ∷ filter p xs) (filter p xs)
    go true h e = rw h (ap (λ ys. x ∷ ys) e)
    go false h e = e

neat_forgotten : (s : State) → IsNeat (forgotten s)
neat_forgotten s = ap (λ (es : List Arrived). record s { arrived = es }) (filter_twice (is_live s.clock) s.arrived)

pub neat_steps : (old new : State) (asks : List Asked) → IsNeat old → Steps old asks new → IsNeat new
neat_steps old new [] neat h = subst IsNeat (sym h) neat
neat_steps old new (a ∷ earlier) neat h = subst IsNeat (sym h.2.new_is)
    (neat_forgotten (after h.0 (made h.0 a.now a.call)))

-- a taking: what is left, and that it can be done

map_same : {A : Type 0} (f : A → A) → ((x : A) → f x ≡ x) → (xs : List A) → map f xs ≡ xs
map_same f same [] = refl
map_same f same (x ∷ xs) = let h = same x in let k = map_same f same xs in cc (h, k)

take_leaves : (s : State) → IsNeat s → forgotten (after s (made s 0 Take)) ≡ with_queue (drop 1 s.queue) s
take_leaves s neat =
    let e : Entry = made s 0 Take in
    ap (λ (es : List Arrived). record {
      most = s.most;
      clock = s.clock;
      awaits = s.awaits;
      upcoming = s.upcoming;
      last_used = s.last_used;
      arrived = filter (is_live s.clock) es;
      open_cons = filter_map (left_by e) s.open_cons ++ [];
      queue = drop 1 s.queue ++ [];
    }) (append-nil (map (stores e) s.arrived) ∙ map_same (stores e) (λ a. refl) s.arrived)
    ∙ ap (λ (cs : List Open). record {
      most = s.most;
      clock = s.clock;
      awaits = s.awaits;
      upcoming = s.upcoming;
      last_used = s.last_used;
      arrived = filter (is_live s.clock) s.arrived;
      open_cons = cs;
      queue = drop 1 s.queue ++ [];
    }) (left_same_nil e (λ c. refl) s.open_cons)
    ∙ ap (λ (r : List Packet). with_queue r (forgotten s)) (append-nil (drop 1 s.queue))
    ∙ ap (with_queue (drop 1 s.queue)) neat

pub taken : (s t : State) (p : Option Packet) → IsNeat s → Step s 0 Take (Gives p) t
    → (p ≡ slice_get s.queue 0) × (t ≡ with_queue (drop 1 s.queue) s)
taken s t p neat h = (gives h.right, h.new_is ∙ take_leaves s neat)
  where
    gives : {x y : Option Packet} → Gives x ≡ Gives y → x ≡ y
    gives e = cc e

pub takes : (s : State) → IsNeat s → Step s 0 Take (Gives (slice_get s.queue 0)) (with_queue (drop 1 s.queue) s)
takes s neat = record { may = tt; right = refl; new_is = sym (take_leaves s neat) }
