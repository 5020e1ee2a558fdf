-- At one moment, the ticks of a server end (RFC 7252, sections 4.2 and 5.2.2; RFC 7641, section 4.5).
use Rattle.std.proofs.Common.{◌≡◌, ◌≤◌, ◌<◌, ℕ, ◌+◌, max, not, Bool, true, false}
use Rattle.std.proofs.Common.{Option, Some, None, List, [], ◌∷◌, ◌++◌, length, refl, ap, sym, subst, ◌∙◌, cond}
use Rattle.std.proofs.Common.{arith}
use Rattle.std.proofs.lemmas.List.Filters.{length-filter_both}
use Rattle.coap_types.specs.declared.endpoint.Endpoint.{Endpoint}
use Rattle.coap_layer.specs.Machine.State as S
use Rattle.coap_layer.specs.Machine.Steps.{Asked, Steps, left_after}
use Rattle.coap_layer.specs.Trace as L
use Rattle.coap_layer.specs.declared.setup.Setup.{Setup}
use Rattle.coap_block.specs.Whole.{Each}
use Rattle.coap_observe.specs.Observers.{Observer}
use Rattle.coap_resource.specs.Serves.{Question}
use Rattle.coap_resource.specs.Limits.{Limits}
use Rattle.coap_exchange.specs.declared.answerer.Asked as answerer
use Rattle.coap_exchange.specs.declared.answerer.Due.{Due}
use Rattle.coap_exchange.specs.declared.answerer.Due.TheVariants as due
use Rattle.coap_exchange.specs.declared.separate.Deferred.{Deferred}
use Rattle.coap_exchange.specs.AnswererTrace as E
use Rattle.coap_exchange.specs.AnswererSteps as P
use Rattle.coap_exchange.specs.AnswererLaw as W
use Rattle.coap_exchange.specs.AskerRequests.{asked}
use Rattle.coap_server.specs.Trace.{Own, Waiting, Handling, Silent, Serves}
use Rattle.coap_server.specs.Trace.{Call, Ticks}
use Rattle.coap_server.specs.Deferring.{question_of, without_waiting}
use Rattle.coap_server.specs.Deferring as D
use Rattle.coap_server.specs.Notifying.{marked, readies, notification}
use Rattle.coap_server.specs.Asks.{notifies_by}
use Rattle.coap_server.specs.Plain.{by_plain}
use Rattle.coap_server.specs.Serving as R
use Rattle.coap_server.specs.Handling.{ticking, heard}
use Rattle.coap_server.specs.Law.{ServerLaw, own_of, lower_of}
use Rattle.coap_server.specs.Led.{state_left}
use Rattle.coap_server.specs.Follows.Rests.{IsTick, TicksEnd}
use Rattle.coap_server.specs.Turns.Work.{work}
use Rattle.coap_exchange.proofs.Facts.LastStep.{last_step}
use Rattle.coap_server.proofs.Facts.Exact.Asked.{joined, back}
use Rattle.coap_server.proofs.Facts.Serving.Brought.{server_back}
use Rattle.coap_server.proofs.Facts.Observing.ObserversWereMade.{are_observers}
use Rattle.coap_server.proofs.Facts.Observing.MarkedObservers.{behind_there, marked_there}
use Rattle.coap_server.proofs.Facts.Observing.Outcomes.{Turned, turned, copied, expired, lost, responded, rests}
use Rattle.coap_server.proofs.Facts.Observing.Outcomes.{noticed}
use Rattle.coap_server.proofs.Rest.MarksFall.{ended_least, notified_fewer}
use Rattle.coap_server.proofs.Facts.Rest.LayerAsked.{Rooms, asking, asks, behind_calls, rooms}
use Rattle.coap_server.proofs.Facts.Serving.Waiting.{ready_are_served}
use Rattle.coap_exchange.specs.StepsDue.{due_count}
use Rattle.coap_exchange.proofs.Facts.StepsDue.{is_step, confirm_least, same_opens}

-- what is taken where something is due

abbrev IsTaken : Due → L.Answer → Type 0
IsTaken due.Copied below = is_step below ≡ true
IsTaken due.Expired below = is_step below ≡ true
IsTaken d below = Unit {0}

if_taken : (below : L.Answer) (o : Option Deferred) (room : Bool) → IsTaken (P.due_if o room) below
if_taken below None room = tt
if_taken below (Some d) true = tt
if_taken below (Some d) false = tt

due_taken : (below : L.Answer) (o : Option Deferred) (room : Bool) → IsTaken (P.due_of below o room) below
due_taken (L.Copied to id) o room = refl
due_taken (L.Expired to id) o room = refl
due_taken L.Idle o room = if_taken L.Idle o room
due_taken _ o room = tt

-- a request that is ready waits no more
without_one : (at : ℕ) (a : answerer.Asked) (ws : List Waiting) (q : Question) → question_of at a ws ≡ Some q
    → length (without_waiting at a ws) + 1 ≡ length ws
without_one at a [] q h = absurd (cc h)
without_one at a (w ∷ ws) q h = by (D.is_of at a w) h (without_one at a ws q)
  where
    by : (b : Bool) → cond b (Some w.question) (question_of at a ws) ≡ Some q
        → (question_of at a ws ≡ Some q → length (without_waiting at a ws) + 1 ≡ length ws)
        → length (cond b ws (w ∷ without_waiting at a ws)) + 1 ≡ length (w ∷ ws)
    by true k f = omega arith
    by false k f = let e = f k in omega (arith, e)

module _ (limits : Limits) (szx : ℕ) (setup : Setup) where
  abbrev own : List Call → Own
  own t = own_of limits szx t

  abbrev layer : List Call → S.State
  layer t = behind_calls setup (lower_of limits szx t)

  -- what is left to be done at this moment
  pub size : ℕ → List Call → ℕ
  size now t = work (state_left limits szx setup t) now

  pub size_is : (now : ℕ) (t : List Call) → size now t ≡ work (state_left limits szx setup t) now
  unfolding size
  size_is now t = refl

  module _ (now w : ℕ) (t : List Call) (below : L.Answer) (room : Bool) where
    abbrev at : ℕ
    at = max (own t).clock now

    abbrev under : List E.Call
    under = lower_of limits szx t

    abbrev ready : Option Deferred
    ready = P.ready_if below (P.ready_at (W.own_of under) at)

    abbrev asked_room : S.State
    asked_room = left_after (S.start setup) (asking setup at (W.lower_of under) below ready room)

    abbrev before : ℕ
    before = due_count (max (layer t).clock at) (layer t).open_cons

    abbrev after : S.State → ℕ
    after s = due_count (max s.clock (max at now)) s.open_cons

    taken_less : (new : S.State) → Steps (S.start setup)
        (asking setup at (W.lower_of under) below ready room) new
        → is_step below ≡ true → after asked_room < before
    taken_less new steps is =
        let k = asks setup at (W.lower_of under) below new ready room steps in
        let clock = k.clock in
        let fewer = k.fewer is in
        let now_same : max at now ≡ at = omega arith in
        let moved : after asked_room ≡ due_count (max (layer t).clock at) asked_room.open_cons =
        ap (λ n. due_count (max asked_room.clock n) asked_room.open_cons) now_same
        ∙ ap (λ n. due_count n asked_room.open_cons) clock in
        omega (arith, moved, fewer)

    -- what is sent now makes nothing due
    sent_now : (call : L.Call) (id : ℕ)
        → ((old new : S.State) → S.Step old at call (L.Sent id) new
        → due_count (max old.clock at) new.open_cons ≡ due_count (max old.clock at) old.open_cons)
        → ((s : S.State) → S.moment s at call ≡ max s.clock at) → (b : S.State) (calls : List Asked) (new : S.State)
        → b ≡ left_after (S.start setup) calls → b.open_cons ≡ asked_room.open_cons
        → max b.clock at ≡ max asked_room.clock at
        → (mid : S.State) → Steps (S.start setup) (asking setup at (W.lower_of under) below ready room) mid
        → Steps (S.start setup) (asked at call (L.Sent id) ∷ calls) new
        → after (left_after (S.start setup) (asked at call (L.Sent id) ∷ calls)) ≤ before
    sent_now call id keeps timed b calls new b_is opens clocks mid turn steps =
        let a : S.State = left_after (S.start setup) calls in
        let last : S.State = left_after (S.start setup) (asked at call (L.Sent id) ∷ calls) in
        let k = asks setup at (W.lower_of under) below mid ready room turn in
        let step = last_step (S.start setup) new (asked at call (L.Sent id)) calls steps in
        let same = keeps a last step in
        let moment = timed a in
        let clock = k.clock in
        let least = k.least in
        let a_opens : a.open_cons ≡ asked_room.open_cons = ap (λ (s : S.State). s.open_cons) (sym b_is) ∙ opens in
        let a_clock : max a.clock at ≡ max asked_room.clock at = ap (λ (s : S.State). max s.clock at) (sym b_is)
        ∙ clocks in
        let later : max (S.moment a at call) (max at now) ≡ max a.clock at = omega (arith, moment) in
        let moved : after last ≡ due_count (max (layer t).clock at) asked_room.open_cons =
        ap (λ n. due_count n last.open_cons) later
        ∙ (same ∙ (ap (λ n. due_count n a.open_cons) (a_clock ∙ clock)
        ∙ ap (λ cs. due_count (max (layer t).clock at) cs) a_opens)) in
        omega (arith, moved, least)

    -- a CON, and a NON

    abbrev with_con : Endpoint → L.Content → L.Call
    with_con to content = L.Confirm to content w

    con_now : (to : Endpoint) (content : L.Content) (id : ℕ) (old new : S.State)
        → S.Step old at (with_con to content) (L.Sent id) new
        → due_count (max old.clock at) new.open_cons ≡ due_count (max old.clock at) old.open_cons
    con_now to content id old new step = confirm_least old new at to content w (L.Sent id) step

    non_now : (to : Endpoint) (content : L.Content) (id : ℕ) (old new : S.State)
        → S.Step old at (L.Plain to content) (L.Sent id) new
        → due_count (max old.clock at) new.open_cons ≡ due_count (max old.clock at) old.open_cons
    non_now to content id old new step =
        ap (due_count (max old.clock at)) (same_opens old new at (L.Plain to content) (L.Sent id) step (λ e c. refl)
        (λ n. refl))

    -- a notification, behind what was asked of the exchanges before it
    notice_least : (plain : Bool) (o : Observer) (r : E.Response) (id : ℕ) (calls : List E.Call)
        → W.ResponseLaw setup (notifies_by plain at o r w id ∷ calls)
        → Rooms setup at asked_room (behind_calls setup calls)
        → (mid : S.State) → Steps (S.start setup) (asking setup at (W.lower_of under) below ready room) mid
        → after (behind_calls setup (notifies_by plain at o r w id ∷ calls)) ≤ before
    notice_least false o r id calls law rooms mid turn =
        let content : L.Content = P.content_with o.token r in
        sent_now (with_con o.to content) id (con_now o.to content id) (λ s. refl) (behind_calls setup calls)
        (W.lower_of calls) law.left refl rooms.opens rooms.clock mid turn law.layer
    notice_least true o r id calls law rooms mid turn =
        let content : L.Content = P.content_with o.token r in
        sent_now (L.Plain o.to content) id (non_now o.to content id) (λ s. refl) (behind_calls setup calls)
        (W.lower_of calls) law.left refl rooms.opens rooms.clock mid turn law.layer

    tick_less : (d : Due) (passed : ℕ) (h : Handling) (id : ℕ)
        → Turned (heard (own t) now (ticking (own t) now below room d)) passed d h
        → ServerLaw limits szx setup (Ticks now w below room d passed h id true ∷ t)
        → size now (Ticks now w below room d passed h id true ∷ t) < size now t
    unfolding size
    tick_less d passed h id copied law =
        let k = taken_less law.exchanges.left law.exchanges.layer
        (subst (λ d. IsTaken d below) (sym law.exchanges.rows.0)
        (due_taken below (P.ready_at (W.own_of under) at) room)) in
        let l = ended_least (P.failed_by below (own t).exchanges.separate) (own t).observers in
        omega (arith, k, l)
    tick_less d passed h id expired law =
        let k = taken_less law.exchanges.left law.exchanges.layer
        (subst (λ d. IsTaken d below) (sym law.exchanges.rows.0)
        (due_taken below (P.ready_at (W.own_of under) at) room)) in
        let l = ended_least (P.failed_by below (own t).exchanges.separate) (own t).observers in
        omega (arith, k, l)
    tick_less d passed h id (rests none) law = let no = law.rows.0.1 in absurd (cc no)
    tick_less d passed h id (noticed o reply found is) law =
        let s : Own = heard (own t) now (ticking (own t) now below room due.Idle) in
        let there = marked_there s.observers o (behind_there passed (marked s.observers) o found) in
        let fewer = notified_fewer (by_plain s o) s.clock id (s.store.holds o.path) o s.observers there.1 there.0 in
        let l = ended_least (P.failed_by below (own t).exchanges.separate) (own t).observers in
        let first : E.Call = ticking (own t) now below room due.Idle in
        let cs : List E.Call = readies at passed (marked s.observers) in
        let calls : List E.Call = (cs ++ first ∷ []) ++ under in
        let e = joined cs first under in
        let r : E.Response = notification s.store o reply in
        let rest = back setup (notifies_by (by_plain s o) at o r w id ∷ []) calls law.exchanges in
        let room_law = subst (W.ResponseLaw setup) e rest in
        let all = subst (λ z. Rooms setup at asked_room (behind_calls setup z)) (sym e)
        (rooms setup at passed (marked s.observers) (first ∷ under) room_law) in
        let turn = back setup cs (first ∷ under) room_law in
        let k = notice_least (by_plain s o) o r id calls law.exchanges all turn.left turn.layer in
        omega (arith, k, l, fewer)
    tick_less d passed h id (responded a q reply left asks serves) law =
        let s : Own = heard (own t) now (ticking (own t) now below room (due.Ready a)) in
        let c : Call = Ticks now w below room (due.Ready a) passed (Serves q reply left) id true in
        let r : E.Response = R.response_to s.store s.observers a q reply in
        let turn = back setup (E.Responds at a r w id ∷ []) (ticking (own t) now below room (due.Ready a) ∷ under)
        law.exchanges in
        let content : L.Content = P.content_of a r in
        let k = sent_now (with_con a.from content) id (con_now a.from content id) (λ s. refl) asked_room
        (asking setup at (W.lower_of under) below ready room) law.exchanges.left refl refl refl turn.left turn.layer
        law.exchanges.layer in
        let few = (are_observers limits szx (c ∷ t)).registrations.few in
        let most = length-filter_both (λ (o : Observer). o.marked) (λ (o : Observer). not o.marked) (λ o. refl)
        (own (c ∷ t)).observers in
        let one = without_one at a (own t).waiting q asks in
        omega (arith, k, few, most, one)
    tick_less d passed h id (lost a none) law =
        let k = (ready_are_served limits szx setup
        (Ticks now w below room (due.Ready a) passed Silent id true ∷ t) law).0 a refl in
        let no = k.1 in
        absurd (cc no)

    pub less : (d : Due) (passed : ℕ) (h : Handling) (id : ℕ)
        → ServerLaw limits szx setup (Ticks now w below room d passed h id true ∷ t)
        → size now (Ticks now w below room d passed h id true ∷ t) < size now t
    less d passed h id law =
        tick_less d passed h id (turned (heard (own t) now (ticking (own t) now below room d)) passed d h law.rows.0.0)
        law

  so_many : (now : ℕ) (t calls : List Call) → Each (IsTick now true) calls → ServerLaw limits szx setup (calls ++ t)
      → length calls + size now (calls ++ t) ≤ size now t
  so_many now t [] h law = omega arith
  so_many now t (c ∷ calls) h law =
      let k = so_many now t calls h.1 (server_back limits szx setup c (calls ++ t) law) in
      let b = h.0 in
      let one = less now b.0 (calls ++ t) b.1 b.2 b.3 b.4 b.5 b.6
      (subst (λ d. ServerLaw limits szx setup (d ∷ (calls ++ t))) b.7 law) in
      let same : size now (c ∷ (calls ++ t)) ≡ size now (Ticks now b.0 b.1 b.2 b.3 b.4 b.5 b.6 true ∷ (calls ++ t)) =
      ap (λ d. size now (d ∷ (calls ++ t))) b.7 in
      omega (arith, k, one, same)

  pub ticks_end : (t : List Call) → TicksEnd limits szx setup t
  unfolding size
  ticks_end t now calls h law = let k = so_many now t calls h law in omega (arith, k)
