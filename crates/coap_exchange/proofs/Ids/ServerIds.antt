-- Each Message ID that the server's side gives is given to a request that came, or to a notification.
use Rattle.std.proofs.Common.{◌≡◌, ⊎_elim, ℕ, ◌+◌, ◌≤◌, ◌<◌, max, Bool, true, false, Option, Some, None, List, []}
use Rattle.std.proofs.Common.{◌∷◌, ◌++◌, length, refl, sym, subst, ap, ◌∙◌, arith, cond, is_some}
use Rattle.std.specs.Option.{option_map}
use Rattle.std.proofs.lemmas.Bool.{cases_lt}
use Rattle.coap_types.specs.declared.endpoint.Endpoint.{Endpoint}
use Rattle.coap_types.specs.declared.message.Kind.{Kind}
use Rattle.coap_types.specs.declared.message.Kind.TheVariants.{Con}
use Rattle.coap_codec.specs.Message.{Message}
use Rattle.coap_layer.specs.Machine.State as L
use Rattle.coap_layer.specs.Machine.State.{made, tick_of}
use Rattle.coap_layer.specs.Machine.Steps.{Asked as Below, Steps, left_after, entries}
use Rattle.coap_layer.specs.Taking.{issued_since, came_since}
use Rattle.coap_layer.specs.Trace as T
use Rattle.coap_layer.specs.Trace.{Entry}
use Rattle.coap_layer.specs.declared.setup.Setup.{Setup}
use Rattle.coap_layer.specs.Words.{clock, handed, handed_in, numbers}
use Rattle.coap_layer.proofs.Facts.Calls.{steps_left}
use Rattle.coap_layer.proofs.Facts.StepsOfLayer.{steps_split}
use Rattle.coap_exchange.specs.declared.answerer.Asked.{Asked}
use Rattle.coap_exchange.specs.declared.separate.Deferred.{Deferred}
use Rattle.coap_exchange.specs.declared.separate.Separate.{Separate}
use Rattle.coap_exchange.specs.AnswererTrace.{Response, Own, Call, Incoming, Answers, Defers, Ticks, Responds, Ready}
use Rattle.coap_exchange.specs.AnswererTrace.{Notifies, NotifiesPlain, Take, Forgets}
use Rattle.coap_exchange.specs.AnswererSteps.{lower, IsRight, after, answering, deferring, may_defer, asking_room}
use Rattle.coap_exchange.specs.AnswererSteps.{ready_if, ready_at, reject_by, handed_up, first_ready, without_ready}
use Rattle.coap_exchange.specs.AnswererSteps.{is_ready, content_of, content_with}
use Rattle.coap_exchange.specs.AnswererLaw.{own_of, lower_of, below_of, AnswererLaw, ResponseLaw}
use Rattle.coap_exchange.specs.AnswererIds.{notifies, notified_since, most_waiting, IdsCounted}
use Rattle.coap_exchange.specs.AskerArrivals.{id_in, replying}
use Rattle.coap_exchange.specs.AskerRequests.{asked}
use Rattle.coap_exchange.proofs.Ids.CountsOfFew.{since_one}
use Rattle.coap_exchange.proofs.Ids.FewGive.{came_grows, came_one, at_most_one, gives_none, none_issued, tick_none}
use Rattle.coap_exchange.proofs.Leading.ServerLeads.{layer_stands}
use Rattle.coap_exchange.proofs.Responding.OneResponse.{counted, fewer_elsewhere}
use Rattle.coap_exchange.proofs.Responding.OneResponse.{length_with as longer_by_one}

-- how many wait for their responses
abbrev pending_in : Option Asked → ℕ
pending_in None = 0
pending_in (Some a) = 1

abbrev waiting_in : Own → ℕ
waiting_in s = length s.deferred + pending_in s.pending

-- one that is ready is taken out
module _ (at : ℕ) (xs : List Separate) (a : Asked) where
  one_less : (ds : List Deferred) → option_map (λ (d : Deferred). d.asked) (first_ready at xs ds) ≡ Some a
      → length ds ≡ 1 + length (without_ready at xs ds)
  one_less [] h = absurd (cc h)
  one_less (d ∷ ds) h = by (is_ready at xs d) (λ k. one_less ds k) h
    where
      by : (w : Bool)
          → (option_map (λ (d : Deferred). d.asked) (first_ready at xs ds) ≡ Some a
          → length ds ≡ 1 + length (without_ready at xs ds))
          → option_map (λ (d : Deferred). d.asked) (cond w (Some d) (first_ready at xs ds)) ≡ Some a
          → length (d ∷ ds) ≡ 1 + length (cond w ds (d ∷ without_ready at xs ds))
      by true f h = omega arith
      by false f h = let k = f h in omega (arith, k)

-- what is handed up, the layer handed up
handed_when : (from : Endpoint) (bytes : List ℕ) (up : T.Answer) (pair : Asked × Message)
    → handed_up from up ≡ Some pair → is_some (handed_in (T.Receive from bytes) up) ≡ true
handed_when from bytes (T.Becomes (T.Request m true)) pair h = refl
handed_when from bytes _ pair h = absurd (cc h)

module _ (setup : Setup) where
  abbrev begin : L.State
  begin = L.start setup

  abbrev reached : List Call → L.State
  reached t = left_after begin (lower_of t)

  -- the layer's clock is that of the calls

  reached_clock : (calls : List Below) → (left_after begin calls).clock
      ≡ clock (entries begin calls)
  reached_clock [] = refl
  reached_clock (a ∷ calls) = refl

  module _ (t : List Call) (before : (reached t).clock ≡ (own_of t).clock) where
    later : (now : ℕ) → max (reached t).clock now ≡ max (own_of t).clock now
    later now = ap (λ n. max n now) before

    incoming : (now : ℕ) (from : Endpoint) (bytes : List ℕ) (up : T.Answer) (id : ℕ) (o : Option (List ℕ))
        → clock (entries begin
        ((replying from id o ++ asked now (T.Receive from bytes) up ∷ []) ++ lower_of t))
        ≡ max (own_of t).clock now
    incoming now from bytes up id None = later now
    incoming now from bytes up id (Some reply) = later now

    defers : (now : ℕ) (a : Asked) (b : Bool)
        → clock (entries begin ((deferring b a ++ asked now T.Pass T.Nothing ∷ []) ++ lower_of t))
        ≡ max (own_of t).clock now
    defers now a true = later now
    defers now a false = later now

    ticks : (now : ℕ) (below : T.Answer) (room : Bool) (o : Option Deferred)
        → clock (entries begin
        ((asking_room now o room ++ asked now T.Ticks below ∷ []) ++ lower_of t))
        ≡ max (own_of t).clock now
    ticks now below room None = later now
    ticks now below room (Some d) =
        let k = later now in
        let n : max (max (reached t).clock now) now ≡ max (own_of t).clock now = omega (arith, k) in n

    answers : (a : Asked) (r : Response) (kind : Kind)
        → clock (made (reached t) (own_of t).clock (answering (own_of t) kind a r) ∷ below_of setup t)
        ≡ (own_of t).clock
    answers a r Con = before
    answers a r _ = let k = before in let n : max (reached t).clock (own_of t).clock
        ≡ (own_of t).clock = omega (arith, k) in n

    clock_next : (c : Call) → clock (below_of setup (c ∷ t)) ≡ (own_of (c ∷ t)).clock
    clock_next (Incoming now from bytes up answer) = incoming now from bytes up (id_in up) (reject_by up)
    clock_next (Answers a r below) = answers a r a.kind
    clock_next (Defers now a delay answer) = defers now a (may_defer (own_of t).deferred)
    clock_next (Ticks now below room answer) = ticks now below room (ready_if below (ready_at (own_of t) now))
    clock_next (Responds now a r w id) = later now
    clock_next (Ready now to answer) = later now
    clock_next (Notifies now to token r w id) = later now
    clock_next (NotifiesPlain now to token r id) = later now
    clock_next (Take answer) = before
    clock_next (Forgets peer) = sym (reached_clock (lower_of t)) ∙ before

  pub clock_is : (t : List Call) → clock (below_of setup t) ≡ (own_of t).clock
  clock_is [] = refl
  clock_is (c ∷ t) = clock_next t (reached_clock (lower_of t) ∙ clock_is t) c

  -- each Message ID that was given since has a request that came since, or a notification; but for those that waited
  abbrev Potential : ℕ → List Call → Type 0
  Potential u t = issued_since u (numbers (below_of setup t)) + waiting_in (own_of t)
      ≤ most_waiting + came_since u (below_of setup t) + notified_since u t

  module _ (u : ℕ) (t : List Call) (old : Potential u t) where
    abbrev s : Own
    s = own_of t

    abbrev issued_then : List Entry → ℕ
    issued_then es = issued_since u (numbers es)

    -- the same of other entries, where so many wait
    abbrev Bounded : ℕ → List Entry → Type 0
    Bounded waiting es = issued_then es + waiting ≤ most_waiting + came_since u es + notified_since u t

    incoming_on : (now : ℕ) (from : Endpoint) (bytes : List ℕ) (up : T.Answer) (answer : Option (Asked × Message))
        → (made (reached t) now (T.Receive from bytes)).answer ≡ up → answer ≡ handed_up from up
        → u ≤ max (reached t).clock now → (id : ℕ) (o : Option (List ℕ))
        → Bounded (waiting_in (after s (Incoming now from bytes up answer)))
        (entries begin ((replying from id o ++ asked now (T.Receive from bytes) up ∷ []) ++ lower_of t))
    incoming_on now from bytes up answer told right late id o = by o (go answer right)
      where
        e : Entry
        e = made (reached t) now (T.Receive from bytes)

        up_is : (p : Asked × Message) → handed_up from up ≡ Some p → is_some (handed e) ≡ true
        up_is p h = subst (λ a. is_some (handed_in (T.Receive from bytes) a) ≡ true) (sym told)
            (handed_when from bytes up p h)

        go : (answer : Option (Asked × Message)) → answer ≡ handed_up from up
            → Bounded (waiting_in (after s (Incoming now from bytes up answer))) (e ∷ below_of setup t)
        go None right = let g = came_grows u e (below_of setup t) in omega (arith, old, g)
        go (Some p) right =
            let g = came_one u e (below_of setup t) (up_is p (sym right)) late in
            omega (arith, old, g)

        by : (o : Option (List ℕ))
            → Bounded (waiting_in (after s (Incoming now from bytes up answer))) (e ∷ below_of setup t)
            → Bounded (waiting_in (after s (Incoming now from bytes up answer)))
            (entries begin ((replying from id o ++ asked now (T.Receive from bytes) up ∷ []) ++ lower_of t))
        by None h = h
        by (Some reply) h = h

    answers_on : (a : Asked) (r : Response) (below : T.Answer) → s.pending ≡ Some a
        → Potential u (Answers a r below ∷ t)
    answers_on a r below is =
        let e : Entry = made (reached t) s.clock (answering s a.kind a r) in
        let one = at_most_one u e (below_of setup t) in
        let g = came_grows u e (below_of setup t) in
        let w : pending_in s.pending ≡ 1 = ap pending_in is in
        omega (arith, old, one, g, w)

    defers_on : (now : ℕ) (a : Asked) (delay : ℕ) (answer : Bool) → s.pending ≡ Some a → (b : Bool)
        → Bounded (waiting_in (after s (Defers now a delay answer)))
        (entries begin ((deferring b a ++ asked now T.Pass T.Nothing ∷ []) ++ lower_of t))
    defers_on now a delay answer is b = by b (go answer)
      where
        d : Deferred
        d = record { asked = a; at = record { 0 = max s.clock now }; delay = delay }

        go : (answer : Bool) → Bounded (waiting_in (after s (Defers now a delay answer))) (below_of setup t)
        go true =
            let l = longer_by_one s.deferred d in
            let w : pending_in s.pending ≡ 1 = ap pending_in is in
            omega (arith, old, l, w)
        go false = old

        by : (b : Bool) → Bounded (waiting_in (after s (Defers now a delay answer))) (below_of setup t)
            → Bounded (waiting_in (after s (Defers now a delay answer)))
            (entries begin ((deferring b a ++ asked now T.Pass T.Nothing ∷ []) ++ lower_of t))
        by true h = h
        by false h = h

    ticks_on : (now : ℕ) (below : T.Answer) (room : Bool) (o : Option Deferred)
        → Bounded (length s.deferred)
        (entries begin ((asking_room now o room ++ asked now T.Ticks below ∷ []) ++ lower_of t))
    ticks_on now below room o = by o
      where
        e : Entry
        e = made (reached t) now T.Ticks

        few : issued_then (e ∷ below_of setup t) + length s.deferred
            ≤ most_waiting + came_since u (below_of setup t) + notified_since u t
        few =
            let none = gives_none u e (below_of setup t)
            (tick_none (max (reached t).clock now) (reached t).open_cons) in
            omega (arith, old, none)

        by : (o : Option Deferred) → Bounded (length s.deferred)
            (entries begin ((asking_room now o room ++ asked now T.Ticks below ∷ []) ++ lower_of t))
        by None = few
        by (Some d) = few

    responds_on : (now : ℕ) (a : Asked) (r : Response) (w id : ℕ)
        → option_map (λ (d : Deferred). d.asked) (ready_at s now) ≡ Some a → Potential u (Responds now a r w id ∷ t)
    responds_on now a r w id is =
        let e : Entry = made (reached t) now (T.Confirm a.from (content_of a r) w) in
        let one = at_most_one u e (below_of setup t) in
        let l = one_less (max s.clock now) s.separate a s.deferred is in
        omega (arith, old, one, l)

    notifies_on : (now : ℕ) (to : Endpoint) (token : List ℕ) (r : Response) (w id : ℕ)
        → u ≤ max s.clock now → Potential u (Notifies now to token r w id ∷ t)
    notifies_on now to token r w id late =
        let e : Entry = made (reached t) now (T.Confirm to (content_with token r) w) in
        let one = at_most_one u e (below_of setup t) in
        let n = since_one (λ past. (own_of past).clock) notifies u (Notifies now to token r w id) t refl late in
        omega (arith, old, one, n)

    plain_on : (now : ℕ) (to : Endpoint) (token : List ℕ) (r : Response) (id : ℕ)
        → u ≤ max s.clock now → Potential u (NotifiesPlain now to token r id ∷ t)
    plain_on now to token r id late =
        let e : Entry = made (reached t) now (T.Plain to (content_with token r)) in
        let one = at_most_one u e (below_of setup t) in
        let n = since_one (λ past. (own_of past).clock) notifies u (NotifiesPlain now to token r id) t refl late in
        omega (arith, old, one, n)

    -- a call at that moment or later
    on : (c : Call) → IsRight s c → (h : L.State) → Steps begin (lower_of (c ∷ t)) h
        → u ≤ clock (below_of setup (c ∷ t)) → Potential u (c ∷ t)
    on (Incoming now from bytes up answer) right h steps late =
        let parts = steps_split begin h (lower s (Incoming now from bytes up answer)) (lower_of t)
        steps in
        let more = steps_split parts.0 h (replying from (id_in up) (reject_by up))
        (asked now (T.Receive from bytes) up ∷ []) parts.2 in
        let begun : more.1.0 ≡ reached t = more.1.1 ∙ steps_left begin (lower_of t) parts.0 parts.1 in
        let told : (made (reached t) now (T.Receive from bytes)).answer ≡ up =
        sym (subst (λ z. up ≡ (made z now (T.Receive from bytes)).answer) begun more.1.2.right) in
        let till = clock_is (Incoming now from bytes up answer ∷ t) in
        let so = reached_clock (lower_of t) ∙ clock_is t in
        incoming_on now from bytes up answer told right
        (subst (λ n. u ≤ max n now) (sym so) (subst (λ n. u ≤ n) till late)) (id_in up) (reject_by up)
    on (Answers a r below) right h steps late = answers_on a r below right.0
    on (Defers now a delay answer) right h steps late = defers_on now a delay answer right.0 (may_defer s.deferred)
    on (Ticks now below room answer) right h steps late =
        let k = ticks_on now below room (ready_if below (ready_at s now)) in omega (arith, k)
    on (Responds now a r w id) right h steps late = responds_on now a r w id right.0
    on (Notifies now to token r w id) right h steps late =
        notifies_on now to token r w id
        (subst (λ n. u ≤ n) (clock_is (Notifies now to token r w id ∷ t)) late)
    on (NotifiesPlain now to token r id) right h steps late =
        plain_on now to token r id (subst (λ n. u ≤ n) (clock_is (NotifiesPlain now to token r id ∷ t)) late)
    on (Forgets peer) right h steps late = let l = fewer_elsewhere peer s.deferred in omega (arith, old, l)
    on _ right h steps late = old

  pending_few : (o : Option Asked) → pending_in o ≤ 1
  pending_few None = omega arith
  pending_few (Some a) = omega arith

  potential : (u : ℕ) (t : List Call) → AnswererLaw t → (h : L.State) → Steps begin (lower_of t) h
      → Potential u t
  potential u [] law h steps = omega arith
  potential u (c ∷ t) law h steps =
      ⊎_elim early
      (λ late. (let parts = steps_split begin h (lower (own_of t) c) (lower_of t) steps in
      on u t (potential u t law.1 parts.0 parts.1) c law.0 h steps (omega (arith, late))))
      (cases_lt (clock (below_of setup (c ∷ t))) u)
    where
      early : clock (below_of setup (c ∷ t)) < u → Potential u (c ∷ t)
      early less =
          let none = none_issued setup u (below_of setup (c ∷ t))
          (layer_stands setup (c ∷ t) (record { rows = law; left = h; layer = steps })) less in
          let few = (counted (c ∷ t) law).1.few in
          let one = pending_few (own_of (c ∷ t)).pending in
          omega (arith, none, few, one)

  pub ids_counted : (t : List Call) → ResponseLaw setup t → IdsCounted setup t
  ids_counted t law u = let k = potential u t law.rows law.left law.layer in omega (arith, k)
