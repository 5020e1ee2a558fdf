-- What a client waits for where a tick does nothing.
use Rattle.std.proofs.Common.{◌≡◌, ◌≤◌, ◌<◌, ◌⊎◌, inl, inr, ℕ, ◌-◌, ◌*◌, max, Bool, true, false, cond, not, ◌&&◌, ◌||◌}
use Rattle.std.proofs.Common.{Option, Some, None, List, [], ◌∷◌, ◌++◌, refl, ap, sym, subst, ◌∙◌, arith, Result, Ok}
use Rattle.std.proofs.Common.{Err}
use Rattle.coap_types.specs.declared.endpoint.Endpoint.{Endpoint}
use Rattle.coap_types.specs.declared.endpoint.Moment.{Moment}
use Rattle.coap_layer.specs.Trace as L
use Rattle.coap_block.specs.Sizes.{Sizes}
use Rattle.coap_exchange.specs.declared.asker.AskRefusal.{AskRefusal}
use Rattle.coap_exchange.specs.declared.asker.Event.TheVariants as event_of
use Rattle.coap_exchange.specs.declared.asker.Exchange.{Exchange}
use Rattle.coap_exchange.specs.declared.asker.Turn.{Turn}
use Rattle.coap_exchange.specs.declared.asker.Turn.TheVariants as turn_of
use Rattle.coap_exchange.specs.AskerTrace as E
use Rattle.coap_exchange.specs.AskerSteps as P
use Rattle.coap_exchange.specs.AskerFollows as A
use Rattle.coap_exchange.specs.AskerDue.{EndWhenDue}
use Rattle.coap_exchange.specs.AskerLaw as X
use Rattle.coap_exchange.proofs.Facts.ClientSide.{when_due}
use Rattle.coap_client.specs.Trace.{Call, Calls, Observes, Cancels, Forgets, Feeds, Ticks, NextOut, NextReport, Asked}
use Rattle.coap_types.specs.declared.transmission.TheConstants.{EXCHANGE_LIFETIME_MS as exchange_lifetime}
use Rattle.coap_types.specs.declared.transmission.TheConstants.{FAILURE_TIMEOUTS as failure_timeouts}
use Rattle.coap_layer.specs.declared.setup.Setup.{Setup}
use Rattle.coap_client.specs.Own.{Operation, Registering, Own}
use Rattle.coap_client.specs.Observations.{to_fetch, observation_of}
use Rattle.coap_client.specs.Effects.{Deed, Asks, Effect, stays, runs}
use Rattle.coap_client.specs.Observing.{releases}
use Rattle.coap_client.specs.Events.{happened, passes, idle, starts, is_held, is_upload_op}
use Rattle.coap_client.specs.Queue.{calling, numbered, cancelling}
use Rattle.coap_client.specs.Deeds.{at, close, deeds, done_for}
use Rattle.coap_client.specs.Steps.{lower, IsRight, is_idle, asks, reporting}
use Rattle.coap_client.specs.Law.{ClientLaw, ClientRows, own_of, lower_of}
use Rattle.coap_exchange.specs.AskerArrivals as R
use Rattle.coap_client_laws.specs.Follows.Answered.{IsNotDue, WaitsFor, IsEmpty, IsIdleTick, AreResting}
use Rattle.coap_client_laws.proofs.Sending.SentFor.{SentFor, sent_for}
use Rattle.coap_client.proofs.Facts.Places.PlaceEffects.{Linked}
use Rattle.coap_client.proofs.Facts.Places.PlaceDeeds.{ran, ran_append}
use Rattle.coap_client.proofs.Facts.Places.Once.{law_back, own_ran, beneath, Known, known}
use Rattle.coap_client.proofs.Facts.Uploading.Holding.{steadied, happened_steady, passes_steady}
use Rattle.coap_client_laws.proofs.Uploading.Causes.{held_for}
use Rattle.coap_client.proofs.Facts.Turning.Moves.{releases_none}

deeds_clock : (m w : ℕ) (sent : L.Answer) (token : Result (List ℕ) AskRefusal) (kept : Bool) (d : Deed) (o : Own)
    (y : E.Own) → y.clock ≤ m → (ran y (deeds d o m w sent token kept)).clock ≤ m
deeds_clock m w sent token kept (Asks op) o y h = omega (arith, h)
deeds_clock m w sent token kept _ o y h = h

module _ (server : Endpoint) (sizes : Sizes) (setup : Setup) where
  done_clock : (t : List Call) (m w : ℕ) (sent : L.Answer) (token : Result (List ℕ) AskRefusal) (kept : Bool)
      (e : Effect) (input : E.Call) → (P.after (beneath server sizes setup t) input).clock ≤ m
      → (X.own_of server setup (done_for e m w sent token kept input ++ lower_of sizes t)).clock ≤ m
  done_clock t m w sent token kept e input h =
      let c : Effect = close m e token in
      let later : List E.Call = deeds c.deed c.own m w sent token kept in
      let first : List E.Call = deeds e.deed e.own m w sent token kept in
      let x : E.Own = beneath server sizes setup t in
      let same = own_ran server setup (later ++ (first ++ input ∷ [])) (lower_of sizes t)
      ∙ (ran_append x later (first ++ input ∷ []) ∙ ap (λ y. ran y later) (ran_append x first (input ∷ []))) in
      subst (λ (y : E.Own). y.clock ≤ m) (sym same)
      (deeds_clock m w sent token kept c.deed c.own _
      (deeds_clock m w sent token kept e.deed e.own (P.after x input) h))

  answer_clock : (o : Result ℕ _) (f : ℕ → Operation) (s : Own) → (numbered f o s).clock ≡ s.clock
  answer_clock (Ok k) f s = refl
  answer_clock (Err why) f s = refl

  cancel_clock : (o : Option _) (k : ℕ) (s : Own) → (cancelling k o s).clock ≡ s.clock
  cancel_clock None k s = refl
  cancel_clock (Some why) k s = refl

  release_clock : (d : Deed) (o : Own) (kept : Bool) (y : E.Own) → ((op : Operation) → d ≡ Asks op → ⊥)
      → (ran y (deeds d o 0 0 L.Nothing (Ok []) kept)).clock ≡ y.clock
  release_clock (Asks op) o kept y f = absurd (f op refl)
  release_clock _ o kept y f = refl

  pub clocks : (t : List Call) → (beneath server sizes setup t).clock ≤ (own_of sizes t).clock
  clocks [] = omega arith
  clocks (Calls now r answer ∷ t) = let a = answer_clock answer (λ number. calling (own_of sizes t).sizes number r)
      (at now (own_of sizes t)) in let b = clocks t in omega (arith, a, b)
  clocks (Observes now path answer ∷ t) = let a =
      answer_clock answer (λ number. Registering number path) (at now (own_of sizes t)) in let b =
      clocks t in omega (arith, a, b)
  clocks (Cancels now k answer ∷ t) = let a = cancel_clock answer k (at now (own_of sizes t)) in let b =
      clocks t in omega (arith, a, b)
  clocks (Forgets k kept true ∷ t) =
      let d : Deed = releases (observation_of k (own_of sizes t).observations) in
      let same = ap (λ (y : E.Own). y.clock) (own_ran server setup (deeds d (own_of sizes t) 0 0 L.Nothing (Ok []) kept)
      (lower_of sizes t)) ∙ release_clock d (own_of sizes t) kept (beneath server sizes setup t)
      (releases_none (observation_of k (own_of sizes t).observations)) in
      let b = clocks t in omega (arith, same, b)
  clocks (Feeds now from bytes w up settled event sent token kept ∷ t) =
      let m : ℕ = max (own_of sizes t).clock now in
      let s : Own = at now (own_of sizes t) in
      let e : Effect = happened s m event in
      let b = clocks t in
      let st = steadied s m e token e.deed refl (happened_steady s m event) in
      let c = st.clock in
      let a = done_clock t m w sent token kept e (E.Receive m from bytes up settled event) (omega (arith, b)) in
      subst (λ i. (beneath server sizes setup (Feeds now from bytes w up settled event sent token kept ∷ t)).clock ≤ i)
      (sym c) a
  clocks (Ticks now w below turn sent token kept answer ∷ t) =
      let m : ℕ = max (own_of sizes t).clock now in
      let s : Own = at now (own_of sizes t) in
      let e : Effect = passes s m turn in
      let b = clocks t in
      let st = steadied s m e token e.deed refl (passes_steady s m turn) in
      let c = st.clock in
      let a = done_clock t m w sent token kept e (E.Ticks m below turn) (omega (arith, b)) in
      subst (λ i. (beneath server sizes setup (Ticks now w below turn sent token kept answer ∷ t)).clock ≤ i) (sym c) a
  clocks (_ ∷ t) = clocks t

  -- a tick that did nothing
  idle_turn : (t : Turn) (b : Bool) → false ≡ (not (is_idle t) || b) → (t ≡ turn_of.Idle) × (b ≡ false)
  idle_turn turn_of.Idle b h = (refl, sym h)
  idle_turn _ b h = absurd (cc h)

  -- it leaves all as it is
  pub record Rested (t : List Call) (now w : ℕ) (below : L.Answer) (turn : Turn) (sent : L.Answer)
      (token : Result (List ℕ) AskRefusal) (kept : Bool) : Type 0 where
    pub idle_is : turn ≡ turn_of.Idle
    pub effect_is : passes (at now (own_of sizes t)) (max (own_of sizes t).clock now) turn
        ≡ stays (at now (own_of sizes t))
    pub waits : ((op : Operation) × ((own_of sizes t).running ≡ Some op))
        ⊎ (((own_of sizes t).running ≡ None) × (((own_of sizes t).queue ≡ [])
        ⊎ ((op : Operation) × (queue : List Operation) × ((own_of sizes t).queue ≡ op ∷ queue)
        × (is_upload_op op ≡ true)
        × (is_held (at now (own_of sizes t)) (max (own_of sizes t).clock now) ≡ true))))

  module _ (t : List Call) (now : ℕ) where
    abbrev s : Own
    s = at now (own_of sizes t)

    abbrev m : ℕ
    m = max (own_of sizes t).clock now

    abbrev Waits : Type 0
    Waits = ((op : Operation) × ((own_of sizes t).running ≡ Some op))
        ⊎ (((own_of sizes t).running ≡ None) × (((own_of sizes t).queue ≡ [])
        ⊎ ((op : Operation) × (queue : List Operation) × ((own_of sizes t).queue ≡ op ∷ queue)
        × (is_upload_op op ≡ true)
        × (is_held s m ≡ true))))

    starts_rests : (queue : List Operation) → (own_of sizes t).running ≡ None → (own_of sizes t).queue ≡ queue
        → asks (starts s m queue).deed ≡ false → (starts s m queue ≡ stays s) × Waits
    starts_rests [] none is h = (refl, inr (none, inl is))
    starts_rests (op ∷ queue) none is h = by (is_upload_op op) refl (is_held s m) refl h
      where
        by : (a : Bool) → is_upload_op op ≡ a → (b : Bool) → is_held s m ≡ b
            → asks (cond (a && b) (stays s) (runs op (record s { queue = queue }))).deed ≡ false
            → (cond (a && b) (stays s) (runs op (record s { queue = queue })) ≡ stays s) × Waits
        by true e true f h = (refl, inr (none, inr (op, queue, is, e, f)))
        by true e false f h = absurd (cc h)
        by false e b f h = absurd (cc h)

    idle_rests : (running : Option Operation) → (own_of sizes t).running ≡ running → (number : Option ℕ)
        → asks (idle s m running number).deed ≡ false → (idle s m running number ≡ stays s) × Waits
    idle_rests (Some op) is number h = (refl, inl (op, is))
    idle_rests None is (Some k) h = absurd (cc h)
    idle_rests None is None h = starts_rests (own_of sizes t).queue is refl h

    pub rested : (w : ℕ) (below : L.Answer) (turn : Turn) (sent : L.Answer) (token : Result (List ℕ) AskRefusal)
        (kept : Bool) → IsRight (own_of sizes t) (Ticks now w below turn sent token kept false)
        → Rested t now w below turn sent token kept
    rested w below turn sent token kept right =
        let i = idle_turn turn (asks (passes s m turn).deed) right in
        let quiet : asks (passes s m turn_of.Idle).deed ≡ false = ap (λ u. asks (passes s m u).deed) (sym i.0) ∙ i.1 in
        let r = idle_rests (own_of sizes t).running refl (to_fetch (own_of sizes t).observations) quiet in
        record { idle_is = i.0; effect_is = ap (passes s m) i.0 ∙ r.0; waits = r.1 }

  lt_of : (a b : ℕ) → (b ≤ a → ⊥) → a < b
  lt_of a b f = omega (arith, f)

  idle_ends : (t : Turn) (e : _) → t ≡ turn_of.Idle → t ≡ turn_of.End e → ⊥
  idle_ends t e a b = cc (a, b)

  -- .. and the exchange that runs is not due
  module _ (t : List Call) (now w : ℕ) (below : L.Answer) (turn : Turn) (sent : L.Answer)
      (token : Result (List ℕ) AskRefusal) (kept : Bool)
      (rows : ClientRows sizes (Ticks now w below turn sent token kept false ∷ t))
      (law : X.AskerLaw server setup (lower_of sizes (Ticks now w below turn sent token kept false ∷ t)))
      (due : EndWhenDue server setup (lower_of sizes (Ticks now w below turn sent token kept false ∷ t))) where
    abbrev c : Call
    c = Ticks now w below turn sent token kept false

    abbrev at_m : ℕ
    at_m = max (own_of sizes t).clock now

    abbrev input : E.Call
    input = E.Ticks at_m below turn

    abbrev behind : Effect → List E.Call
    behind e = done_for e at_m w sent token kept input ++ lower_of sizes t

    r : Rested t now w below turn sent token kept
    r = rested t now w below turn sent token kept rows.0

    queue_is : (own_of sizes (c ∷ t)).queue ≡ (own_of sizes t).queue
    queue_is = ap (λ e. (reporting (close at_m e token)).queue) r.effect_is

    running_is : (own_of sizes (c ∷ t)).running ≡ (own_of sizes t).running
    running_is = ap (λ e. (reporting (close at_m e token)).running) r.effect_is

    clock_is : (own_of sizes (c ∷ t)).clock ≡ at_m
    clock_is = ap (λ e. (reporting (close at_m e token)).clock) r.effect_is

    exchange_is : (beneath server sizes setup (c ∷ t)).running ≡ (beneath server sizes setup t).running
    exchange_is = ap (λ e. (X.own_of server setup (behind e)).running) r.effect_is
        ∙ ap (λ u. R.running_unless u (beneath server sizes setup t).running) r.idle_is

    last_is : A.last_begun server setup (lower_of sizes (c ∷ t)) ≡ A.last_begun server setup (lower_of sizes t)
    last_is = ap (λ e. A.last_begun server setup (behind e)) r.effect_is

    due_now : EndWhenDue server setup (input ∷ lower_of sizes t)
    due_now = subst (λ e. EndWhenDue server setup (behind e)) r.effect_is due

    moment_is : A.moment server setup (lower_of sizes t) at_m ≡ at_m
    moment_is = let a = clocks t in omega (arith, a)

    -- what runs was sent last
    runs_for : (x : Exchange) → (beneath server sizes setup t).running ≡ Some x → SentFor sizes server setup (c ∷ t) x
    runs_for x runs = sent_for sizes server setup (c ∷ t) rows law x (exchange_is ∙ runs)

    not_due : (x : Exchange) → (beneath server sizes setup t).running ≡ Some x → (acked : Option Moment)
        → x.acked ≡ acked
        → IsNotDue server sizes setup (c ∷ t) (own_of sizes (c ∷ t)).clock
    not_due x runs None none =
        let f = due_now.0.unheard at_m below turn x refl runs none in
        let late : f.begun.timeout * failure_timeouts ≤ at_m - f.begun.at
        → ⊥ = λ h. idle_ends turn event_of.Timeout r.idle_is
        (f.ends (subst (λ i. f.begun.timeout * failure_timeouts ≤ i - f.begun.at) (sym moment_is) h)) in
        let soon : at_m - f.begun.at < f.begun.timeout * failure_timeouts =
        lt_of (at_m - f.begun.at) (f.begun.timeout * failure_timeouts) late in
        let z = runs_for x runs in
        record {
          operation = z.operation;
          runs = z.runs;
          sending = z.sending;
          last = z.last;
          sent_for = z.is_for;
          exchange = x;
          token = z.token;
          running = exchange_is ∙ runs;
          not_due = inl (
            none,
            (
              f.begun,
              last_is ∙ f.last,
              subst (λ i. i - f.begun.at < f.begun.timeout * failure_timeouts) (sym clock_is) soon,
            ),
          );
        }
    not_due x runs (Some acked) heard =
        let late : exchange_lifetime ≤ at_m - acked.0
        → ⊥ = λ h. idle_ends turn event_of.NoResponse r.idle_is
        (due_now.0.heard at_m below turn x acked refl runs heard
        (subst (λ i. exchange_lifetime ≤ i - acked.0) (sym moment_is) h)) in
        let soon : at_m - acked.0 < exchange_lifetime = lt_of (at_m - acked.0) exchange_lifetime late in
        let z = runs_for x runs in
        record {
          operation = z.operation;
          runs = z.runs;
          sending = z.sending;
          last = z.last;
          sent_for = z.is_for;
          exchange = x;
          token = z.token;
          running = exchange_is ∙ runs;
          not_due = inr (acked, heard, subst (λ i. i - acked.0 < exchange_lifetime) (sym clock_is) soon);
        }

    held_same : is_held (own_of sizes (c ∷ t)) (own_of sizes (c ∷ t)).clock ≡ is_held (at now (own_of sizes t)) at_m
    held_same = ap (λ e. is_held (reporting (close at_m e token)) (reporting (close at_m e token)).clock) r.effect_is

    rests_for : Known server sizes setup t → WaitsFor server sizes setup t c
        ⊎ IsEmpty server sizes setup (own_of sizes (c ∷ t))
    rests_for k = elim r.waits [
      | inl run ↦ (let l : Linked (Some run.0) (own_of sizes t).observations (beneath server sizes setup t).running =
          subst
          (λ o. Linked o (own_of sizes t).observations (beneath server sizes setup t).running) run.1 k.linked in inl
          (inl (not_due l.0 l.1 l.0.acked refl)))
      | inr idle_now ↦ elim idle_now.1 [
        | inl empty ↦ inr (record { queue = queue_is ∙ empty; none = running_is ∙ idle_now.0 })
        | inr q ↦ (let held = held_same ∙ q.4 in
            let f = held_for server sizes setup (c ∷ t) rows law (own_of sizes (c ∷ t)).clock held in
            inl (inr (record {
              operation = q.0;
              queue = q.1;
              first = queue_is ∙ q.2;
              none = running_is ∙ idle_now.0;
              upload = q.3;
              held = held;
              other = f.other;
              ended = f.ended;
              sent = f.sent;
            })))
      ]
    ]

  due_back : (cs rest : List E.Call) → EndWhenDue server setup (cs ++ rest) → EndWhenDue server setup rest
  due_back [] rest h = h
  due_back (x ∷ cs) rest h = due_back cs rest h.1

  pub are_resting : (t : List Call) → ClientLaw server sizes setup t → AreResting server sizes setup t
  are_resting t law = all t law.rows law.exchanges.rows
      (when_due server setup (lower_of sizes t) law.exchanges.rows law.exchanges.left law.exchanges.layer)
    where
      here : (t : List Call) (c : Call) → ClientRows sizes (c ∷ t) → X.AskerLaw server setup (lower_of sizes (c ∷ t))
          → EndWhenDue server setup (lower_of sizes (c ∷ t)) → Known server sizes setup t
          → IsIdleTick server sizes setup c
          → WaitsFor server sizes setup t c ⊎ IsEmpty server sizes setup (own_of sizes (c ∷ t))
      here t c rows law due k i =
          subst (λ d. ClientRows sizes (d ∷ t) → X.AskerLaw server setup (lower_of sizes (d ∷ t))
          → EndWhenDue server setup (lower_of sizes (d ∷ t))
          → WaitsFor server sizes setup t d ⊎ IsEmpty server sizes setup (own_of sizes (d ∷ t))) (sym i.7)
          (λ rows law due. rests_for t i.0 i.1 i.2 i.3 i.4 i.5 i.6 rows law due k) rows law due

      all : (t : List Call) → ClientRows sizes t → X.AskerLaw server setup (lower_of sizes t)
          → EndWhenDue server setup (lower_of sizes t) → AreResting server sizes setup t
      all [] rows law due = tt
      all (c ∷ t) rows law due =
          let under = law_back server setup (lower (own_of sizes t) c) (lower_of sizes t) law in (
            λ i. here t c rows law due (known server sizes setup t rows.1 under) i,
            all t rows.1 under (due_back (lower (own_of sizes t) c) (lower_of sizes t) due),
          )
