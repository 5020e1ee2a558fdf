-- What waits is answered at a tick that finds it the first that can be, if a Message ID is free.
use Rattle.std.proofs.Common.{◌≡◌, ◌⊎◌, inl, inr, ◌≤◌, ℕ, ◌-◌, max, nat_le, Bool, true, false, ◌&&◌, ◌||◌, not, Some}
use Rattle.std.proofs.Common.{List, [], ◌∷◌, ◌++◌, map, refl, ap, sym, subst, ◌∙◌, cond, arith}
use Rattle.std.proofs.lemmas.Bool.{le-leb, leb-true, and_from}
use Rattle.coap_types.specs.Past.{Ever}
use Rattle.coap_types.specs.declared.endpoint.Endpoint.{Endpoint}
use Rattle.coap_types.specs.SameEndpoint.{same_endpoint}
use Rattle.coap_layer.specs.Machine.State as S
use Rattle.coap_layer.specs.Machine.State.{is_busy}
use Rattle.coap_layer.specs.Machine.Steps.{Steps, entries, left_after}
use Rattle.coap_layer.specs.Rows.{LayerLaw, AsksRoom, Busy, Withholds}
use Rattle.coap_layer.specs.Trace as L
use Rattle.coap_layer.specs.Words.{Open, clock, outstanding}
use Rattle.coap_block.specs.Whole.{Each}
use Rattle.coap_resource.specs.Limits.{Limits}
use Rattle.coap_exchange.specs.declared.answerer.Asked.{Asked}
use Rattle.coap_exchange.specs.declared.answerer.Due.{Due}
use Rattle.coap_exchange.specs.declared.answerer.Due.TheVariants as due
use Rattle.coap_exchange.specs.declared.separate.Deferred.{Deferred}
use Rattle.coap_exchange.specs.declared.separate.Separate.{Separate}
use Rattle.coap_exchange.specs.AnswererTrace as E
use Rattle.coap_exchange.specs.AnswererLaw as W
use Rattle.coap_exchange.specs.AnswererLaw.{ResponseLaw}
use Rattle.coap_exchange.specs.AnswererSteps as P
use Rattle.coap_exchange.specs.AnswererSteps.{is_ready, first_ready, is_waited_for}
use Rattle.coap_exchange.specs.AskerRequests.{asked}
use Rattle.coap_layer.proofs.Facts.CallsOfLayer.{left_same_nil}
use Rattle.coap_layer.specs.declared.setup.Setup.{Setup}
use Rattle.coap_exchange.proofs.Facts.ServerSide.{layer_stands, waits}
use Rattle.coap_server.specs.Trace.{Waiting, Own, Handling, Serves}
use Rattle.coap_server.specs.Trace.{Call, Ticks}
use Rattle.coap_server.specs.Handling.{heard}
use Rattle.coap_server.specs.Asks.{responding}
use Rattle.coap_server.specs.Law.{ServerLaw, own_of, lower_of, layer_of}
use Rattle.coap_server.specs.Follows.Attended.{AnswersIt, NoId, CanAnswer, FirstIsAnswered}
use Rattle.coap_server.specs.Follows.Waits.{deferred_as}
use Rattle.coap_exchange.proofs.Facts.LastStep.{last_step}
use Rattle.coap_server_laws.proofs.Answering.LayerIsLed.{layer_led}
use Rattle.coap_server.proofs.Facts.Exact.Asked.{joined, back}
use Rattle.coap_server.proofs.Facts.Exact.Leads.{exchanges_kept}
use Rattle.coap_server.proofs.Facts.Serving.Brought.{server_back, left_is}
use Rattle.coap_server.proofs.Facts.Serving.Waiting.{mirrors, ready_are_served}

-- where a CON is unacknowledged

pub busy_ever : (to : Endpoint) (cs : List Open) → is_busy to cs ≡ true
    → Ever (λ (c : Open). same_endpoint c.to to ≡ true) cs
busy_ever to [] h = absurd (cc h)
busy_ever to (c ∷ cs) h = by (same_endpoint c.to to) refl (busy_ever to cs) h
  where
    by : (b : Bool) → same_endpoint c.to to ≡ b → (is_busy to cs ≡ true
        → Ever (λ (x : Open). same_endpoint x.to to ≡ true) cs) → (b || is_busy to cs) ≡ true
        → (same_endpoint c.to to ≡ true) ⊎ Ever (λ (x : Open). same_endpoint x.to to ≡ true) cs
    by true is f k = inl is
    by false is f k = inr (f k)

pub ever_busy : (to : Endpoint) (cs : List Open) → Ever (λ (c : Open). same_endpoint c.to to ≡ true) cs
    → is_busy to cs ≡ true
ever_busy to [] h = absurd h
ever_busy to (c ∷ cs) (inl h) = ap (λ b. b || is_busy to cs) h
ever_busy to (c ∷ cs) (inr h) = by (same_endpoint c.to to) (ever_busy to cs h)
  where
    by : (b : Bool) → is_busy to cs ≡ true → (b || is_busy to cs) ≡ true
    by true k = refl
    by false k = k

-- the first that is ready

pub not_ready : (d : Deferred) (at : ℕ) (xs : List Separate)
    → (d.delay ≤ at - d.at.0 → (is_waited_for d.asked.from xs ≡ true → ⊥) → ⊥) → is_ready at xs d ≡ false
not_ready d at xs never = by (nat_le d.delay (at - d.at.0)) (is_waited_for d.asked.from xs) refl refl
  where
    by : (b c : Bool) → nat_le d.delay (at - d.at.0) ≡ b → is_waited_for d.asked.from xs ≡ c → (b && not c) ≡ false
    by true true e f = refl
    by true false e f = absurd (never (leb-true d.delay (at - d.at.0) e)
        (λ k. (let z : true ≡ false = sym k ∙ f in cc z)))
    by false c e f = refl

pub so_ready : (d : Deferred) (at : ℕ) (xs : List Separate) → d.delay ≤ at - d.at.0
    → (is_waited_for d.asked.from xs ≡ true → ⊥) → is_ready at xs d ≡ true
so_ready d at xs passed alone = by (is_waited_for d.asked.from xs) alone
  where
    by : (c : Bool) → (c ≡ true → ⊥) → (nat_le d.delay (at - d.at.0) && not c) ≡ true
    by true never = absurd (never refl)
    by false never = and_from _ _ (le-leb d.delay (at - d.at.0) passed) refl

first_is : (at : ℕ) (xs : List Separate) (before behind : List Waiting) (x : Waiting)
    → Each (λ y. is_ready at xs (deferred_as y) ≡ false) before → is_ready at xs (deferred_as x) ≡ true
    → first_ready at xs (map deferred_as (before ++ x ∷ behind)) ≡ Some (deferred_as x)
first_is at xs [] behind x none is = ap (λ b. cond b (Some (deferred_as x))
    (first_ready at xs (map deferred_as behind))) is
first_is at xs (y ∷ before) behind x none is =
    ap (λ b. cond b (Some (deferred_as y)) (first_ready at xs (map deferred_as (before ++ x ∷ behind)))) none.0
    ∙ first_is at xs before behind x none.1 is

pub each_map : {X : Type 0} (P Q : X → Type 0) → ((x : X) → P x → Q x) → (xs : List X) → Each P xs → Each Q xs
each_map P Q f [] h = tt
each_map P Q f (x ∷ xs) h = (f x h.0, each_map P Q f xs h.1)

one_ready : (a b : Asked) → due.Ready a ≡ due.Ready b → a ≡ b
one_ready a b h = cc h

-- no room, where no CON is unacknowledged
module _ (setup : Setup) (calls : List E.Call) (law : ResponseLaw setup calls) (at : ℕ) (to : Endpoint) where
  abbrev past : List L.Entry
  past = W.below_of setup calls

  abbrev begin : S.State
  begin = left_after (S.start setup) (W.lower_of calls)

  abbrev ticked : S.State
  ticked = left_after (S.start setup) (asked at L.Ticks L.Idle ∷ W.lower_of calls)

  begin_is : begin ≡ S.forgotten (S.history setup past)
  begin_is = sym (left_is (S.start setup) law.left (W.lower_of calls) law.layer)
      ∙ (layer_led setup calls law).kept

  abbrev idle_entry : L.Answer → L.Entry
  idle_entry u = record {
    at = S.moment begin at L.Ticks;
    call = L.Ticks;
    answer = u;
    out = S.out_of begin (S.moment begin at L.Ticks) L.Ticks;
  }

  abbrev room_entry : L.Answer → L.Entry
  room_entry u = record { at = S.moment ticked at (L.Room to); call = L.Room to; answer = u; out = [] }

  still_alone : (Busy past to → ⊥) → Busy (idle_entry L.Idle ∷ past) to → ⊥
  still_alone alone busy = alone (subst (λ cs. Ever (λ (c : Open). same_endpoint c.to to ≡ true) cs)
      (left_same_nil (idle_entry L.Idle) (λ c. refl) (outstanding past)) busy)

  abbrev then : ℕ
  then = max (max begin.clock at) at

  no_room : (Busy past to → ⊥) → AsksRoom setup (idle_entry L.Idle ∷ past) (room_entry (L.Is false)) to
      → Withholds setup past then
  no_room alone (inl k, out) = let z : L.Is false ≡ L.Is true = k.2 in absurd (cc z)
  no_room alone (inr (inl busy, is), out) = absurd (still_alone alone busy)
  no_room alone (inr (inr held, is), out) = held

  pub withheld : (left : S.State) → Steps (S.start setup)
      (asked at (L.Room to) (L.Is false) ∷ asked at L.Ticks L.Idle ∷ W.lower_of calls) left
      → AsksRoom setup (S.made begin at L.Ticks ∷ past) (S.made ticked at (L.Room to)) to → (Busy past to → ⊥)
      → Withholds setup past (max (clock past) at)
  withheld left steps row alone =
      let tick = last_step (S.start setup) steps.0 (asked at L.Ticks L.Idle) (W.lower_of calls) steps.1 in
      let room = last_step (S.start setup) left (asked at (L.Room to) (L.Is false))
      (asked at L.Ticks L.Idle ∷ W.lower_of calls) steps in
      let one = subst (λ u. AsksRoom setup (idle_entry u ∷ past) (S.made ticked at (L.Room to)) to)
      (sym tick.right) row in
      let two = subst (λ u. AsksRoom setup (idle_entry L.Idle ∷ past) (room_entry u) to)
      (sym room.right) one in
      let held = no_room alone two in
      let clocks : begin.clock ≡ clock past = ap (λ (z : S.State). z.clock) begin_is in
      let same : then ≡ max (clock past) at = omega (arith, clocks) in
      subst (Withholds setup past) same held

module _ (limits : Limits) (szx : ℕ) (setup : Setup) where
  abbrev own : List Call → Own
  own t = own_of limits szx t

  module _ (t : List Call) (now w : ℕ) (before behind : List Waiting) (x : Waiting)
      (is : (own t).waiting ≡ before ++ x ∷ behind) (none : Each (λ y. CanAnswer limits szx setup t now y → ⊥) before)
      (can : CanAnswer limits szx setup t now x) where
    abbrev at : ℕ
    at = max (own t).clock now

    abbrev calls : List E.Call
    calls = lower_of limits szx t

    abbrev Goal : Call → Type 0
    Goal c = AnswersIt limits szx t c x.asked ⊎ NoId limits szx setup t now

    first_found : ServerLaw limits szx setup t → P.ready_at (W.own_of calls) at ≡ Some (deferred_as x)
    first_found law =
        let m = mirrors limits szx setup t law in
        let kept : (own t).exchanges ≡ W.own_of calls = exchanges_kept limits szx t in
        let c = m.clock in
        let same : max (own t).exchanges.clock at ≡ at = omega (arith, c) in
        subst (λ (z : E.Own). P.ready_at z at ≡ Some (deferred_as x)) kept
        (ap (λ n. first_ready n (own t).exchanges.separate (own t).exchanges.deferred) same
        ∙ (ap (λ ds. first_ready at (own t).exchanges.separate ds) (sym m.lists ∙ ap (map deferred_as) is)
        ∙ first_is at (own t).exchanges.separate before behind x
        (each_map (λ y. CanAnswer limits szx setup t now y → ⊥)
        (λ y. is_ready at (own t).exchanges.separate (deferred_as y) ≡ false)
        (λ y never. not_ready (deferred_as y) at (own t).exchanges.separate
        (λ p a. never (record { passed = p; alone = λ b. a (waited law y.asked.from b) }))) before none)
        (so_ready (deferred_as x) at (own t).exchanges.separate can.passed
        (λ k. can.alone (unwaited law x.asked.from k)))))
      where
        opens : (law : ServerLaw limits szx setup t)
            → law.exchanges.left.open_cons ≡ outstanding (layer_of limits szx setup t)
        opens law = ap (λ (z : S.State). z.open_cons) (layer_led setup (lower_of limits szx t) law.exchanges).kept

        same_busy : (law : ServerLaw limits szx setup t) (to : Endpoint)
            → is_waited_for to (own t).exchanges.separate ≡ is_busy to (outstanding (layer_of limits szx setup t))
        same_busy law to = ap (λ (z : E.Own). is_waited_for to z.separate) (exchanges_kept limits szx t)
            ∙ (waits setup (lower_of limits szx t) law.exchanges to ∙ ap (is_busy to) (opens law))

        waited : (law : ServerLaw limits szx setup t) (to : Endpoint) → Busy (layer_of limits szx setup t) to
            → is_waited_for to (own t).exchanges.separate ≡ true
        waited law to b = same_busy law to ∙ ever_busy to (outstanding (layer_of limits szx setup t)) b

        unwaited : (law : ServerLaw limits szx setup t) (to : Endpoint)
            → is_waited_for to (own t).exchanges.separate ≡ true → Busy (layer_of limits szx setup t) to
        unwaited law to k = busy_ever to (outstanding (layer_of limits szx setup t)) (sym (same_busy law to) ∙ k)

    turn_law : (room : Bool) (d : Due) (passed : ℕ) (h : Handling) (id : ℕ) (answer : Bool)
        → ServerLaw limits szx setup (Ticks now w L.Idle room d passed h id answer ∷ t)
        → ResponseLaw setup (E.Ticks at L.Idle room d ∷ calls)
    turn_law room d passed h id answer law =
        let first : E.Call = E.Ticks at L.Idle room d in
        let asks : List E.Call = responding (heard (own t) now first) d passed h w id in
        back setup asks (first ∷ calls) (subst (ResponseLaw setup) (joined asks first calls) law.exchanges)

    ready_answered : (room : Bool) (a : Asked) (passed : ℕ) (h : Handling) (id : ℕ) (answer : Bool)
        → ServerLaw limits szx setup (Ticks now w L.Idle room (due.Ready a) passed h id answer ∷ t) → a ≡ x.asked
        → AnswersIt limits szx t (Ticks now w L.Idle room (due.Ready a) passed h id answer) x.asked
    ready_answered room a passed (Serves q reply left) id answer law same = inl (ap (λ b. Some b) same)
    ready_answered room a passed h id answer law same =
        let k = (ready_are_served limits szx setup
        (Ticks now w L.Idle room (due.Ready a) passed h id answer ∷ t) law).0 a refl in
        let no = k.1 in
        absurd (cc no)

    with_room : (d : Due) (passed : ℕ) (h : Handling) (id : ℕ) (answer : Bool)
        → ServerLaw limits szx setup (Ticks now w L.Idle true d passed h id answer ∷ t) → d ≡ due.Ready x.asked
        → AnswersIt limits szx t (Ticks now w L.Idle true d passed h id answer) x.asked
    with_room (due.Ready a) passed h id answer law e =
        ready_answered true a passed h id answer law (one_ready a x.asked e)
    with_room _ passed h id answer law e = absurd (cc e)

    answered : (room : Bool) (d : Due) (passed : ℕ) (h : Handling) (id : ℕ) (answer : Bool)
        → ServerLaw limits szx setup (Ticks now w L.Idle room d passed h id answer ∷ t)
        → Goal (Ticks now w L.Idle room d passed h id answer)
    answered true d passed h id answer law =
        let c : Call = Ticks now w L.Idle true d passed h id answer in
        let found = first_found (server_back limits szx setup c t law) in
        inl (with_room d passed h id answer law ((turn_law true d passed h id answer law).rows.0
        ∙ ap (λ o. P.due_of L.Idle o true) found))
    answered false d passed h id answer law =
        let c : Call = Ticks now w L.Idle false d passed h id answer in
        let earlier = server_back limits szx setup c t law in
        let found = first_found earlier in
        let one = turn_law false d passed h id answer law in
        let steps = subst (λ o. Steps (S.start setup)
        ((P.asking_room at o false ++ asked at L.Ticks L.Idle ∷ []) ++ W.lower_of calls) one.left) found one.layer
        in
        let stands = layer_stands setup (E.Ticks at L.Idle false d ∷ calls) one in
        let all = subst (λ o. LayerLaw setup (entries (S.start setup)
        ((P.asking_room at o false ++ asked at L.Ticks L.Idle ∷ []) ++ W.lower_of calls))) found stands in
        inr (withheld setup calls earlier.exchanges at x.asked.from one.left steps (all.0.row) can.alone)

  here : (t : List Call) (c : Call) → ServerLaw limits szx setup (c ∷ t)
      → (now w : ℕ) (room : Bool) (d : Due) (passed : ℕ) (h : Handling) (id : ℕ) (answer : Bool)
      (before behind : List Waiting) (x : Waiting)
      → c ≡ Ticks now w L.Idle room d passed h id answer → (own t).waiting ≡ before ++ x ∷ behind
      → Each (λ y. CanAnswer limits szx setup t now y → ⊥) before → CanAnswer limits szx setup t now x
      → AnswersIt limits szx t c x.asked ⊎ NoId limits szx setup t now
  here t c law now w room d passed h id answer before behind x is waiting none can =
      subst (λ b. AnswersIt limits szx t b x.asked ⊎ NoId limits szx setup t now) (sym is)
      (answered t now w before behind x waiting none can room d passed h id answer
      (subst (λ b. ServerLaw limits szx setup (b ∷ t)) is law))

  pub first_answered : (t : List Call) → ServerLaw limits szx setup t → FirstIsAnswered limits szx setup t
  first_answered [] law = tt
  first_answered (c ∷ t) law = (here t c law, first_answered t (server_back limits szx setup c t law))
