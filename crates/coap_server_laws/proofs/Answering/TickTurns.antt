-- What a tick does behind a message layer that has nothing due: a response, a notification, or nothing.
use Rattle.std.proofs.Common.{◌≡◌, ◌⊎◌, inl, inr, ℕ, max, Bool, true, false, Option, Some, None, List, [], ◌∷◌, ◌++◌}
use Rattle.std.proofs.Common.{refl, ap, sym, subst, ◌∙◌, cond}
use Rattle.coap_layer.specs.Machine.State as S
use Rattle.coap_layer.specs.Machine.State.{is_failed, is_copy_due, tick_of}
use Rattle.coap_layer.specs.Machine.Steps.{Asked as Below, Steps, entries, left_after}
use Rattle.coap_layer.specs.Rows.{Busy, LayerLaw}
use Rattle.coap_layer.specs.Trace as L
use Rattle.coap_layer.specs.Words.{Open, clock}
use Rattle.coap_observe.specs.Observers.{Observer}
use Rattle.coap_resource.specs.Content.{Content}
use Rattle.coap_resource.specs.Serves.{Question, Reply}
use Rattle.coap_resource.specs.Limits.{Limits}
use Rattle.coap_exchange.specs.declared.answerer.Asked.{Asked}
use Rattle.coap_exchange.specs.declared.answerer.Due.{Due}
use Rattle.coap_exchange.specs.declared.answerer.Due.TheVariants as due
use Rattle.coap_exchange.specs.declared.separate.Deferred.{Deferred}
use Rattle.coap_exchange.specs.AnswererTrace as E
use Rattle.coap_exchange.specs.AnswererLaw as W
use Rattle.coap_exchange.specs.AnswererLaw.{ResponseLaw}
use Rattle.coap_exchange.specs.AnswererSteps as P
use Rattle.coap_exchange.specs.AskerRequests.{asked}
use Rattle.coap_exchange.proofs.Facts.ServerSide.{layer_stands}
use Rattle.coap_layer.proofs.Facts.StepsOfLayer.{steps_split}
use Rattle.coap_layer.specs.declared.setup.Setup.{Setup}
use Rattle.coap_server.specs.Trace.{Own, Handling, Silent, Serves, Notifies, Call, Ticks}
use Rattle.coap_server.specs.Asks.{responding}
use Rattle.coap_server.specs.Deferring.{AnswersWaiting, question_of}
use Rattle.coap_server.specs.Handling.{heard, ticking}
use Rattle.coap_server.specs.Notifying.{marked, behind, readies, NotifiesNext}
use Rattle.coap_server.specs.Law.{ServerLaw, own_of, lower_of, layer_of}
use Rattle.coap_server.specs.Follows.Attended.{CanAnswer, NoId}
use Rattle.coap_server_laws.specs.Follows.Begins.{NoneToAnswer, NoneToNotify, IsNextNotice}
use Rattle.coap_server_laws.specs.Follows.Begins.{IsNextResponse}
use Rattle.coap_server.specs.Follows.Serves.{serving_of}
use Rattle.coap_server_laws.proofs.Answering.LayerIsLed.{layer_led}
use Rattle.coap_server_laws.proofs.Answering.RoomAsked.{Quiet, Says, never_both, quiet_room, quiet_tick, room_says}
use Rattle.coap_server_laws.proofs.Answering.WhatCanGo.{Walked, walk, gives, first_notified, none_notified, ready_is}
use Rattle.coap_server_laws.proofs.Answering.WhatCanGo.{Found, first_found, none_found, asks_first, first_holds}
use Rattle.coap_server.proofs.Facts.Exact.Asked.{joined, back, one_back}
use Rattle.coap_server.proofs.Facts.Observing.Outcomes.{next_one}
use Rattle.coap_server.proofs.Facts.Serving.Brought.{server_back, left_is}
use Rattle.coap_server.proofs.Facts.Serving.FoundReady.{found_ready}

-- what a layer answers a tick

tick_kinds : (n : ℕ) (cs : List Open) → (tick_of n cs ≡ L.Idle)
    ⊎ ((o : Option Deferred) (room : Bool) → due.Idle ≡ P.due_of (tick_of n cs) o room → ⊥)
tick_kinds n [] = inl refl
tick_kinds n (c ∷ cs) = by (is_failed n c) (is_copy_due n c) (tick_kinds n cs)
  where
    by : (f d : Bool)
        → (tick_of n cs ≡ L.Idle)
        ⊎ ((o : Option Deferred) (room : Bool) → due.Idle ≡ P.due_of (tick_of n cs) o room → ⊥)
        → (cond f (L.Expired c.to c.id) (cond d (L.Copied c.to c.id) (tick_of n cs)) ≡ L.Idle)
        ⊎ ((o : Option Deferred) (room : Bool)
        → due.Idle ≡ P.due_of (cond f (L.Expired c.to c.id) (cond d (L.Copied c.to c.id) (tick_of n cs))) o room → ⊥)
    by true d k = inr (λ o room z. cc z)
    by false true k = inr (λ o room z. cc z)
    by false false k = k

-- what is next of those that are marked

pub next_silent : (n : Option Observer) (store : Content) → NotifiesNext n store Silent → n ≡ None
next_silent None store h = refl
next_silent (Some o) store h = absurd (cc h)

-- what is served is what was asked
served_asks : (o : Option Question) (q : Question) (store : Content) (at : ℕ) (p : Question) (reply : Reply)
    (left : Content) → o ≡ Some q → AnswersWaiting o store at (Serves p reply left) → p ≡ q
served_asks (Some x) q store at p reply left h k =
    let one : x ≡ q = cc h in
    let is = k.is in
    let same : p ≡ x = cc is in
    same ∙ one
served_asks None q store at p reply left h k = absurd (cc h)

module _ (limits : Limits) (szx : ℕ) (setup : Setup) (t : List Call) (now w : ℕ) where
  abbrev own : Own
  own = own_of limits szx t

  abbrev at : ℕ
  at = max own.clock now

  abbrev calls : List E.Call
  calls = lower_of limits szx t

  abbrev base : List Below
  base = W.lower_of calls

  abbrev tick : List Below
  tick = asked at L.Ticks L.Idle ∷ []

  abbrev asking : Option Deferred → Bool → List Below
  asking o room = (P.asking_room at o room ++ tick) ++ base

  -- the call of the exchanges, and what is asked of them behind it
  module _ (below : L.Answer) (room : Bool) (d : Due) (passed : ℕ) (h : Handling) (id : ℕ) (answer : Bool)
      (law : ServerLaw limits szx setup (Ticks now w below room d passed h id answer ∷ t)) where
    abbrev first : E.Call
    first = E.Ticks at below room d

    abbrev asks : List E.Call
    asks = responding (heard own now first) d passed h w id

    all_law : ResponseLaw setup (asks ++ first ∷ calls)
    all_law = subst (ResponseLaw setup) (joined asks first calls) law.exchanges

    one_law : ResponseLaw setup (first ∷ calls)
    one_law = back setup asks (first ∷ calls) all_law

    pub earlier : ServerLaw limits szx setup t
    earlier = server_back limits szx setup (Ticks now w below room d passed h id answer) t law

    pub due_is : d ≡ P.due_of below (P.ready_at (W.own_of calls) at) room
    due_is = one_law.rows.0

    -- where nothing is due, the layer was idle
    pub was_idle : d ≡ due.Idle → below ≡ L.Idle
    was_idle is =
        let ready : Option Deferred = P.ready_if below (P.ready_at (W.own_of calls) at) in
        let c = steps_split (S.start setup) one_law.left
        (P.asking_room at ready room ++ asked at L.Ticks below ∷ [])
        base one_law.layer in
        let e = steps_split c.0 one_law.left (P.asking_room at ready room) (asked at L.Ticks below ∷ []) c.2 in
        let right = e.1.2.right in
        let s = e.1.0 in
        elim (tick_kinds (max s.clock at) s.open_cons) [
          | inl idle ↦ right ∙ idle
          | inr never ↦ absurd (never (P.ready_at (W.own_of calls) at) room
              (sym is ∙ (due_is ∙ ap (λ u. P.due_of u (P.ready_at (W.own_of calls) at) room) right)))
        ]

  -- an idle layer
  module _ (room : Bool) (d : Due) (passed : ℕ) (h : Handling) (id : ℕ) (answer : Bool)
      (law : ServerLaw limits szx setup (Ticks now w L.Idle room d passed h id answer ∷ t)) where
    abbrev one : ResponseLaw setup (E.Ticks at L.Idle room d ∷ calls)
    one = one_law L.Idle room d passed h id answer law

    abbrev before : ServerLaw limits szx setup t
    before = earlier L.Idle room d passed h id answer law

    clocks : (left_after (S.start setup) base).clock ≡ clock (layer_of limits szx setup t)
    clocks = ap (λ (z : S.State). z.clock)
        (sym (left_is (S.start setup) before.exchanges.left base before.exchanges.layer)
        ∙ (layer_led setup calls before.exchanges).kept)

    steps_by : (o : Option Deferred) → P.ready_at (W.own_of calls) at ≡ o
        → Steps (S.start setup) (asking o room) one.left
    steps_by o is = subst (λ z. Steps (S.start setup) (asking z room) one.left) is one.layer

    stands_by : (o : Option Deferred) → P.ready_at (W.own_of calls) at ≡ o
        → LayerLaw setup (entries (S.start setup) (asking o room))
    stands_by o is = subst (λ z. LayerLaw setup (entries (S.start setup) (asking z room))) is
        (layer_stands setup (E.Ticks at L.Idle room d ∷ calls) one)

    quiet_by : (o : Option Deferred) → Steps (S.start setup) (asking o room) one.left
        → Quiet setup base at (asking o room)
    quiet_by None steps = quiet_tick setup base at one.left steps clocks
    quiet_by (Some x) steps = quiet_room setup base at (asked at L.Ticks L.Idle ∷ base)
        (quiet_tick setup base at steps.0 steps.1 clocks) x.asked.from room

    pub quiet_first : Quiet setup base at (W.lower_of (E.Ticks at L.Idle room d ∷ calls))
    quiet_first = quiet_by (P.ready_at (W.own_of calls) at) one.layer

    room_there : (x : Deferred) → P.ready_at (W.own_of calls) at ≡ Some x → Says setup base at x.asked.from room
    room_there x is =
        let steps = steps_by (Some x) is in
        room_says setup base at (asked at L.Ticks L.Idle ∷ base) (quiet_tick setup base at steps.0 steps.1 clocks)
        x.asked.from room one.left steps (stands_by (Some x) is)

    found_at : (x : Deferred) → P.ready_at (W.own_of calls) at ≡ Some x
        → Found limits szx setup t now before own.waiting x
    found_at x is = first_found limits szx setup t now before own.waiting x
        (sym (ready_is limits szx setup t now before) ∙ is)

  -- the first that can be answered, where a request is ready
  pub ready_first : (room : Bool) (a : Asked) (passed : ℕ) (h : Handling) (id : ℕ) (answer : Bool)
      → (law : ServerLaw limits szx setup (Ticks now w L.Idle room (due.Ready a) passed h id answer ∷ t))
      → Found limits szx setup t now (before room (due.Ready a) passed h id answer law) own.waiting
      (found_ready L.Idle (P.ready_at (W.own_of calls) at) room a
      (due_is L.Idle room (due.Ready a) passed h id answer law)).deferred
  ready_first room a passed h id answer law =
      let f = found_ready L.Idle (P.ready_at (W.own_of calls) at) room a
      (due_is L.Idle room (due.Ready a) passed h id answer law) in
      found_at room (due.Ready a) passed h id answer law f.deferred f.first

  -- the response to a request that is ready
  module _ (room : Bool) (a : Asked) (passed : ℕ) (q : Question) (reply : Reply) (left : Content) (id : ℕ)
      (answer : Bool) where
    abbrev responding_call : L.Answer → Call
    responding_call u = Ticks now w u room (due.Ready a) passed (Serves q reply left) id answer

    ready_next : (r : Bool) → ServerLaw limits szx setup
        (Ticks now w L.Idle r (due.Ready a) passed (Serves q reply left) id answer ∷ t)
        → IsNextResponse limits szx setup t (Ticks now w L.Idle r (due.Ready a) passed (Serves q reply left) id answer)
        now a
    ready_next false law =
        let h : Handling = Serves q reply left in
        let f = found_ready L.Idle (P.ready_at (W.own_of calls) at) false a
        (due_is L.Idle false (due.Ready a) passed h id answer law) in
        let no : due.Ready a ≡ due.Idle = due_is L.Idle false (due.Ready a) passed h id answer law
        ∙ ap (λ o. P.due_of L.Idle o false) f.first in
        absurd (cc no)
    ready_next true law =
        let h : Handling = Serves q reply left in
        let f = found_ready L.Idle (P.ready_at (W.own_of calls) at) true a
        (due_is L.Idle true (due.Ready a) passed h id answer law) in
        let g = found_at true (due.Ready a) passed h id answer law f.deferred f.first in
        let whose : g.request.asked ≡ a = ap (λ (x : Deferred). x.asked) g.is ∙ f.asked in
        let says = room_there true (due.Ready a) passed h id answer law f.deferred f.first in
        record {
          request = g.request;
          first = g.first;
          asked = whose;
          id = says.1;
          serves = serving_of (heard own now (ticking own now L.Idle true (due.Ready a))) a q reply left;
          here = refl;
          asks = (
            refl,
            served_asks (question_of at a own.waiting) g.request.question own.store at q reply left
                (asks_first limits szx setup t now a g.request own.waiting whose g.first) law.rows.0.0,
          );
        }

    pub response_next : (below : L.Answer) → ServerLaw limits szx setup (responding_call below ∷ t)
        → IsNextResponse limits szx setup t (responding_call below) now a
    response_next below law =
        let f = found_ready below (P.ready_at (W.own_of calls) at) room a
        (due_is below room (due.Ready a) passed (Serves q reply left) id answer law) in
        subst (λ u. IsNextResponse limits szx setup t (responding_call u) now a) (sym f.idle)
        (ready_next room (subst (λ u. ServerLaw limits szx setup (responding_call u ∷ t)) f.idle law))

  -- nothing is ready, or no Message ID is free
  module _ (room : Bool) (passed : ℕ) (h : Handling) (id : ℕ) (answer : Bool)
      (law : ServerLaw limits szx setup (Ticks now w L.Idle room due.Idle passed h id answer ∷ t)) where
    pub none_ready : NoId limits szx setup t now ⊎ NoneToAnswer limits szx setup t now
    none_ready = by (P.ready_at (W.own_of calls) at) refl
      where
        busy_no : (x : Deferred) → P.ready_at (W.own_of calls) at ≡ Some x → (r : Bool)
            → Says setup base at x.asked.from r
            → due.Idle ≡ P.due_if (Some x) r
            → NoId limits szx setup t now ⊎ NoneToAnswer limits szx setup t now
        busy_no x is true says e = absurd (cc e)
        busy_no x is false (inr held) e = inl held
        busy_no x is false (inl busy) e =
            let g = found_at room due.Idle passed h id answer law x is in
            let can = first_holds (λ y. CanAnswer limits szx setup t now y) g.request own.waiting g.first in
            absurd (can.alone (subst (λ (y : Deferred). Busy (layer_of limits szx setup t) y.asked.from)
            (sym g.is) busy))

        by : (o : Option Deferred) → P.ready_at (W.own_of calls) at ≡ o
            → NoId limits szx setup t now ⊎ NoneToAnswer limits szx setup t now
        by None is = inr (none_found limits szx setup t now (before room due.Idle passed h id answer law) own.waiting
            (sym (ready_is limits szx setup t now (before room due.Idle passed h id answer law)) ∙ is))
        by (Some x) is = busy_no x is room (room_there room due.Idle passed h id answer law x is)
            (due_is L.Idle room due.Idle passed h id answer law ∙ ap (λ o. P.due_of L.Idle o room) is)

    -- those of whom it was asked whether they can be notified
    pub walked : ResponseLaw setup (readies at passed (marked own.observers) ++ E.Ticks at L.Idle room due.Idle ∷ calls)
        → Walked setup calls at passed (marked own.observers)
    walked asked = walk setup calls at (E.Ticks at L.Idle room due.Idle ∷ calls)
        (quiet_first room due.Idle passed h id answer law) passed (marked own.observers) asked

  -- a notification
  pub notice_next : (room : Bool) (passed : ℕ) (o : Observer) (reply : Reply) (id : ℕ) (answer : Bool)
      → ServerLaw limits szx setup (Ticks now w L.Idle room due.Idle passed (Notifies o reply) id answer ∷ t)
      → IsNextNotice limits szx setup t now o
  notice_next room passed o reply id answer law =
      let h : Handling = Notifies o reply in
      let all = all_law L.Idle room due.Idle passed h id answer law in
      let v = walked room passed h id answer law (one_back setup _ _ all) in
      let found = (next_one (behind passed (marked own.observers)) own.store o reply law.rows.0.0).0 in
      let may = gives limits szx setup t now passed (marked own.observers) o found v in
      record {
        none = elim (none_ready room passed h id answer law) [
          | inl held ↦ absurd (never_both setup (layer_of limits szx setup t) _ may held)
          | inr none ↦ none
        ];
        first = first_notified limits szx setup t now may passed own.observers o found v;
        id = may;
      }

  -- nothing
  pub nothing_left : (room : Bool) (passed : ℕ) (id : ℕ) (answer : Bool)
      → ServerLaw limits szx setup (Ticks now w L.Idle room due.Idle passed Silent id answer ∷ t)
      → NoId limits szx setup t now ⊎ (NoneToAnswer limits szx setup t now × NoneToNotify limits szx setup t)
  nothing_left room passed id answer law =
      let v = walked room passed Silent id answer law (all_law L.Idle room due.Idle passed Silent id answer law) in
      let found = next_silent (behind passed (marked own.observers)) own.store law.rows.0.0 in
      elim (none_ready room passed Silent id answer law) [
        | inl held ↦ inl held
        | inr none ↦ elim (none_notified limits szx setup t now passed own.observers found v) [
          | inl held ↦ inl held
          | inr rest ↦ inr (none, rest)
        ]
      ]
