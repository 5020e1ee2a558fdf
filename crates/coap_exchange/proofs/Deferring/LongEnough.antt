-- A deferred request has its response no earlier than its delay says, and is ready once that has passed.
use Rattle.std.proofs.Common.{◌≡◌, ◌≢◌, ◌≤◌, ◌⊎◌, inl, inr, ℕ, ◌+◌, ◌-◌, max, nat_le, Bool, true, false, Some, List, []}
use Rattle.std.proofs.Common.{◌∷◌, ◌++◌, refl, ap, sym, subst, ◌∙◌, cond, arith, ◌&&◌, not}
use Rattle.std.specs.Option.{option_map}
use Rattle.coap_types.specs.Past.{Sometime}
use Rattle.coap_types.proofs.Facts.Traces.{Sometime_map}
use Rattle.std.proofs.lemmas.Bool.{leb-true, le-leb}
use Rattle.coap_layer.specs.Trace as T
use Rattle.coap_exchange.specs.declared.answerer.Asked.{Asked}
use Rattle.coap_exchange.specs.declared.answerer.Due.{Due}
use Rattle.coap_exchange.specs.declared.answerer.Due.TheVariants as due
use Rattle.coap_exchange.specs.declared.separate.Deferred.{Deferred}
use Rattle.coap_exchange.specs.declared.separate.Separate.{Separate}
use Rattle.coap_exchange.specs.AnswererTrace.{Call, Defers, Ticks, Responds, Take, Forgets}
use Rattle.coap_exchange.specs.AnswererSteps.{IsRight, is_waited_for, is_ready, first_ready, without_ready, due_of}
use Rattle.coap_exchange.specs.AnswererSteps.{deferred_elsewhere, ready_at}
use Rattle.coap_exchange.specs.AnswererLaw.{own_of, AnswererLaw}
use Rattle.coap_exchange.specs.AnswererDeferrals.{moment, DefersUntil, LongEnough, DeferredLongEnough, IsDue, IsReadied}
use Rattle.coap_exchange.specs.AnswererDeferrals.{ReadyWhenDue}
use Rattle.coap_types.specs.declared.endpoint.Endpoint.{Endpoint}
use Rattle.coap_types.specs.SameEndpoint.{same_endpoint}
use Rattle.coap_types.proofs.Facts.Endpoints.{same_endpoint_is}
use Rattle.coap_exchange.proofs.Calls.ServerTicks.{due_ready}
use Rattle.std.proofs.lemmas.Bool.{and_parts}

-- each deferred request was deferred, at the moment that is kept

pub record DefersAs (d : Deferred) (past : List Call) (c : Call) : Type 0 where
  pub now : ℕ
  pub defers : c ≡ Defers now d.asked d.delay true
  pub at : d.at.0 ≡ moment past now

abbrev pub Stands : List Call → Deferred → Type 0
Stands t d = Sometime (DefersAs d) t × (d.at.0 ≤ (own_of t).clock)

abbrev pub AllStand : List Call → List Deferred → Type 0
AllStand t [] = Unit {0}
AllStand t (d ∷ ds) = Stands t d × AllStand t ds

stand_later : (c : Call) (t : List Call) → (own_of t).clock ≤ (own_of (c ∷ t)).clock → (ds : List Deferred)
    → AllStand t ds → AllStand (c ∷ t) ds
stand_later c t later [] h = tt
stand_later c t later (d ∷ ds) h = let k = h.0.1 in ((inr h.0.0, omega (arith, k, later)), stand_later c t later ds h.1)

stand_with : (t : List Call) (ds : List Deferred) (d : Deferred) → AllStand t ds → Stands t d
    → AllStand t (ds ++ d ∷ [])
stand_with t [] d h k = (k, tt)
stand_with t (e ∷ ds) d h k = (h.0, stand_with t ds d h.1 k)

module _ (t : List Call) (peer : Endpoint) where
  stand_if : (d : Deferred) (ds : List Deferred) (w : Bool) → Stands t d → AllStand t ds
      → AllStand t (cond w (d ∷ ds) ds)
  stand_if d ds true h k = (h, k)
  stand_if d ds false h k = k

  stand_elsewhere : (ds : List Deferred) → AllStand t ds → AllStand t (deferred_elsewhere peer ds)
  stand_elsewhere [] h = tt
  stand_elsewhere (d ∷ ds) h = stand_if d (deferred_elsewhere peer ds) (not (same_endpoint d.asked.from peer)) h.0
      (stand_elsewhere ds h.1)

module _ (t : List Call) (at : ℕ) (xs : List Separate) where
  stand_by : (d : Deferred) (ds : List Deferred) (w : Bool) → AllStand t (d ∷ ds) → AllStand t (without_ready at xs ds)
      → AllStand t (cond w ds (d ∷ without_ready at xs ds))
  stand_by d ds true h k = h.1
  stand_by d ds false h k = (h.0, k)

  stand_without : (ds : List Deferred) → AllStand t ds → AllStand t (without_ready at xs ds)
  stand_without [] h = tt
  stand_without (d ∷ ds) h = stand_by d ds (is_ready at xs d) h (stand_without ds h.1)

  pub passed_by : (delay from : ℕ) (free : Bool) → from ≤ at → (nat_le delay (at - from) && free) ≡ true
      → from + delay ≤ at
  passed_by delay from free since h = let k = leb-true delay (at - from)
      (and_parts (nat_le delay (at - from)) free h).0 in omega (arith, k, since)

  deferred_until : (d : Deferred) → (own_of t).clock ≤ at → Stands t d → is_ready at xs d ≡ true
      → Sometime (DefersUntil d.asked at) t
  deferred_until d clock s h =
      let since = s.1 in
      let passed = passed_by d.delay d.at.0 (not (is_waited_for d.asked.from xs)) (omega (arith, since, clock)) h in
      Sometime_map (DefersAs d) (DefersUntil d.asked at)
      (λ past c k. record {
        now = k.now;
        delay = d.delay;
        defers = k.defers;
        passed = subst (λ n. n + d.delay ≤ at) k.at passed;
      }) t s.0

  ready_by : (a : Asked) (d : Deferred) (ds : List Deferred) (w : Bool) → is_ready at xs d ≡ w → (own_of t).clock ≤ at
      → Stands t d
      → (option_map (λ (e : Deferred). e.asked) (first_ready at xs ds) ≡ Some a → Sometime (DefersUntil a at) t)
      → option_map (λ (e : Deferred). e.asked) (cond w (Some d) (first_ready at xs ds)) ≡ Some a
      → Sometime (DefersUntil a at) t
  ready_by a d ds true is clock s ih e = let same : d.asked
      ≡ a = cc e in subst (λ x. Sometime (DefersUntil x at) t) same (deferred_until d clock s is)
  ready_by a d ds false is clock s ih e = ih e

  ready_deferred : (a : Asked) (ds : List Deferred) → (own_of t).clock ≤ at → AllStand t ds
      → option_map (λ (e : Deferred). e.asked) (first_ready at xs ds) ≡ Some a → Sometime (DefersUntil a at) t
  ready_deferred a [] clock h e = absurd (cc e)
  ready_deferred a (d ∷ ds) clock h e = ready_by a d ds (is_ready at xs d) refl clock h.0
      (ready_deferred a ds clock h.1) e

-- a request that is due is kept

abbrev Has : Asked → ℕ → List Deferred → Type 0
Has a at [] = ⊥
Has a at (d ∷ ds) = ((d.asked ≡ a) × (d.at.0 + d.delay ≤ at)) ⊎ Has a at ds

module _ (a : Asked) (at : ℕ) where
  has_before : (ds : List Deferred) (d : Deferred) → Has a at ds → Has a at (ds ++ d ∷ [])
  has_before [] d h = absurd h
  has_before (e ∷ ds) d (inl h) = inl h
  has_before (e ∷ ds) d (inr h) = inr (has_before ds d h)

  has_last : (ds : List Deferred) (d : Deferred) → d.asked ≡ a → d.at.0 + d.delay ≤ at → Has a at (ds ++ d ∷ [])
  has_last [] d e h = inl (e, h)
  has_last (x ∷ ds) d e h = inr (has_last ds d e h)

  module _ (when : ℕ) (xs : List Separate) (b : Asked) (other : Some b ≢ Some a) where
    has_by : (d : Deferred) (ds : List Deferred) (w : Bool)
        → option_map (λ (e : Deferred). e.asked) (cond w (Some d) (first_ready when xs ds)) ≡ Some b
        → (option_map (λ (e : Deferred). e.asked) (first_ready when xs ds) ≡ Some b → Has a at ds
        → Has a at (without_ready when xs ds)) → Has a at (d ∷ ds)
        → Has a at (cond w ds (d ∷ without_ready when xs ds))
    has_by d ds true is ih (inl h) = absurd (other (sym is ∙ ap (λ x. Some x) h.0))
    has_by d ds true is ih (inr h) = h
    has_by d ds false is ih (inl h) = inl h
    has_by d ds false is ih (inr h) = inr (ih is h)

    has_without : (ds : List Deferred) → option_map (λ (e : Deferred). e.asked) (first_ready when xs ds) ≡ Some b
        → Has a at ds → Has a at (without_ready when xs ds)
    has_without [] is h = absurd h
    has_without (d ∷ ds) is h = has_by d ds (is_ready when xs d) is (has_without ds) h

  -- of another peer
  module _ (peer : Endpoint) (other : Some peer ≢ Some a.from) where
    kept_by : (d : Deferred) (ds : List Deferred) (w : Bool) → same_endpoint d.asked.from peer ≡ w
        → (Has a at ds → Has a at (deferred_elsewhere peer ds)) → Has a at (d ∷ ds)
        → Has a at (cond (not w) (d ∷ deferred_elsewhere peer ds) (deferred_elsewhere peer ds))
    kept_by d ds true is ih (inl h) =
        let there : d.asked.from ≡ peer = same_endpoint_is d.asked.from peer is in
        absurd (other (ap (λ p. Some p) (sym there ∙ ap (λ (x : Asked). x.from) h.0)))
    kept_by d ds true is ih (inr h) = ih h
    kept_by d ds false is ih (inl h) = inl h
    kept_by d ds false is ih (inr h) = inr (ih h)

    has_elsewhere : (ds : List Deferred) → Has a at ds → Has a at (deferred_elsewhere peer ds)
    has_elsewhere [] h = absurd h
    has_elsewhere (d ∷ ds) h = kept_by d ds (same_endpoint d.asked.from peer) refl (has_elsewhere ds) h

  forgets_due : (peer : Endpoint) (t : List Call) → (IsDue a at t → Has a at (own_of t).deferred)
      → IsDue a at (Forgets peer ∷ t) → Has a at (deferred_elsewhere peer (own_of t).deferred)
  forgets_due peer t ih (inl h) = absurd (cc h.defers)
  forgets_due peer t ih (inr h) = has_elsewhere peer h.0.1 (own_of t).deferred (ih h.1)

  quiet_due : (c : Call) (t : List Call) → ((now delay : ℕ) → c ≡ Defers now a delay true → ⊥)
      → (IsDue a at t → Has a at (own_of t).deferred) → IsDue a at (c ∷ t) → Has a at (own_of t).deferred
  quiet_due c t n ih (inl h) = absurd (n h.now h.delay h.defers)
  quiet_due c t n ih (inr h) = ih h.1

  defers_due : (now : ℕ) (b : Asked) (delay : ℕ) (t : List Call) → (IsDue a at t → Has a at (own_of t).deferred)
      → IsDue a at (Defers now b delay true ∷ t) → Has a at (own_of (Defers now b delay true ∷ t)).deferred
  defers_due now b delay t ih (inl h) =
      let same : b ≡ a = cc h.defers in
      let then_is : now ≡ h.now = cc h.defers in
      let long : delay ≡ h.delay = cc h.defers in
      has_last (own_of t).deferred (record { asked = b; at = record { 0 = moment t now }; delay = delay }) same
      (until h.now h.delay then_is long h.passed)
    where
      until : (n k : ℕ) → now ≡ n → delay ≡ k → moment t n + k ≤ at → moment t now + delay ≤ at
      until n k p q h = subst (λ z. moment t now + z ≤ at) (sym q) (subst (λ z. moment t z + k ≤ at) (sym p) h)
  defers_due now b delay t ih (inr h) = has_before (own_of t).deferred
      (record { asked = b; at = record { 0 = moment t now }; delay = delay }) (ih h.1)

  responds_due : (now : ℕ) (b : Asked) (r : _) (word id : ℕ) (t : List Call)
      → IsRight (own_of t) (Responds now b r word id) → (IsDue a at t → Has a at (own_of t).deferred)
      → IsDue a at (Responds now b r word id ∷ t)
      → Has a at (own_of (Responds now b r word id ∷ t)).deferred
  responds_due now b r word id t right ih (inl h) = absurd (cc h.defers)
  responds_due now b r word id t right ih (inr h) =
      has_without (moment t now) (own_of t).separate b h.0.0 (own_of t).deferred right.0 (ih h.1)

  is_kept : (t : List Call) → AnswererLaw t → IsDue a at t → Has a at (own_of t).deferred
  is_kept [] law h = absurd h
  is_kept (Defers now b delay true ∷ t) law h = defers_due now b delay t (is_kept t law.1) h
  is_kept (Responds now b r word id ∷ t) law h = responds_due now b r word id t law.0 (is_kept t law.1) h
  is_kept (Forgets peer ∷ t) law h = forgets_due peer t (is_kept t law.1) h
  is_kept (c ∷ t) law h = quiet_due c t (λ n k e. cc e) (is_kept t law.1) h

  -- .. and one is ready
  module _ (xs : List Separate) (free : is_waited_for a.from xs ≡ false) where
    pub ready_now : (d : Deferred) → d.asked ≡ a → d.at.0 + d.delay ≤ at → is_ready at xs d ≡ true
    ready_now d same passed =
        let le = le-leb d.delay (at - d.at.0) (omega (arith, passed)) in
        let idle : is_waited_for d.asked.from xs ≡ false =
        subst (λ (x : Asked). is_waited_for x.from xs ≡ false) (sym same) free in
        cc (le, idle)

    some_by : (d : Deferred) (ds : List Deferred) (w : Bool) → is_ready at xs d ≡ w → Has a at (d ∷ ds)
        → (Has a at ds → (e : Deferred) × (first_ready at xs ds ≡ Some e))
        → (e : Deferred) × (cond w (Some d) (first_ready at xs ds) ≡ Some e)
    some_by d ds true is h ih = (d, refl)
    some_by d ds false is (inl h) ih = let k = ready_now d h.0 h.1 in absurd (cc (k, is))
    some_by d ds false is (inr h) ih = ih h

    some_ready : (ds : List Deferred) → Has a at ds → (e : Deferred) × (first_ready at xs ds ≡ Some e)
    some_ready [] h = absurd h
    some_ready (d ∷ ds) h = some_by d ds (is_ready at xs d) refl h (some_ready ds)

-- each call

no_ready : (t : List Call) (c : Call) → ((now : ℕ) (below : _) (room : Bool) (a : Asked)
    → c ≡ Ticks now below room (due.Ready a) → ⊥)
    → ((now : ℕ) (a : Asked) (r : _) (word id : ℕ) → c ≡ Responds now a r word id → ⊥) → LongEnough t c
no_ready t c n m = record {
  ready = λ now below room a e. absurd (n now below room a e);
  responds = λ now a r word id e. absurd (m now a r word id e);
}

pub later_clock : (a n : ℕ) → a ≤ max a n
later_clock a n = omega (arith)

pub rises_at : (t : List Call) (c : Call) → (own_of t).clock ≤ (own_of (c ∷ t)).clock
rises_at t (Take answer) = omega arith
rises_at t _ = omega arith

module _ (t : List Call) (stand : AllStand t (own_of t).deferred) where
  abbrev On : Call → Type 0
  On c = LongEnough t c × AllStand (c ∷ t) (own_of (c ∷ t)).deferred

  ready_on : (now : ℕ) (below : _) (room : Bool) (answer : Due) → answer ≡ due_of below (ready_at (own_of t) now) room
      → LongEnough t (Ticks now below room answer)
  ready_on now below room answer right = record {
    ready = λ n b r a e.
        let now_is : now ≡ n = cc e in
        let answer_is : answer ≡ due.Ready a = cc e in
        let k = due_ready below (ready_at (own_of t) now) room a (sym right ∙ answer_is) in
        subst (λ z. Sometime (DefersUntil a (moment t z)) t) now_is
        (ready_deferred t (moment t now) (own_of t).separate a (own_of t).deferred
        (later_clock (own_of t).clock now) stand k.1);
    responds = λ n a r w i e. absurd (cc e);
  }

  responds_on : (now : ℕ) (b : Asked) (r : _) (word id : ℕ) → IsRight (own_of t) (Responds now b r word id)
      → LongEnough t (Responds now b r word id)
  responds_on now b r word id right = record {
    ready = λ n bl ro a e. absurd (cc e);
    responds = λ n a s w i e.
        let now_is : now ≡ n = cc e in
        let same : b ≡ a = cc e in
        let k = ready_deferred t (moment t now) (own_of t).separate b (own_of t).deferred
        (later_clock (own_of t).clock now) stand right.0 in
        subst (λ x. Sometime (DefersUntil x (moment t n)) t) same
        (subst (λ z. Sometime (DefersUntil b (moment t z)) t) now_is k);
  }

  timed : (c : Call) → (own_of t).clock ≤ (own_of (c ∷ t)).clock → AllStand (c ∷ t) (own_of t).deferred
  timed c later = stand_later c t later (own_of t).deferred stand

  on : (c : Call) → IsRight (own_of t) c → On c
  on (Defers now a delay true) right = (
    no_ready t _ (λ n b r a e. cc e) (λ n a r w i e. cc e),
    stand_with (Defers now a delay true ∷ t) (own_of t).deferred _
        (timed (Defers now a delay true) (later_clock (own_of t).clock now))
        (inl (record { now = now; defers = refl; at = refl }), omega (arith)),
  )
  on (Ticks now below room answer) right = (
    ready_on now below room answer right,
    timed (Ticks now below room answer) (later_clock (own_of t).clock now),
  )
  on (Responds now b r word id) right = (
    responds_on now b r word id right,
    stand_without (Responds now b r word id ∷ t) (moment t now) (own_of t).separate (own_of t).deferred
        (timed (Responds now b r word id) (later_clock (own_of t).clock now)),
  )
  on (Forgets peer) right = (
    no_ready t _ (λ n b r a e. cc e) (λ n a r w i e. cc e),
    stand_elsewhere (Forgets peer ∷ t) peer (own_of t).deferred (timed (Forgets peer) (rises_at t (Forgets peer))),
  )
  on c right = (no_ready t c (λ n b r a e. cc e) (λ n a r w i e. cc e), timed c (rises_at t c))

pub long_so : (t : List Call) → AnswererLaw t → DeferredLongEnough t × AllStand t (own_of t).deferred
long_so [] law = (tt, tt)
long_so (c ∷ t) law = let earlier = long_so t law.1 in let here =
    on t earlier.1 c law.0 in ((here.0, earlier.0), here.1)

pub long_enough : (t : List Call) → AnswererLaw t → DeferredLongEnough t
long_enough t law = (long_so t law).0

is_readied : (t : List Call) (c : Call) → AnswererLaw t → IsRight (own_of t) c → IsReadied t c
is_readied t c law right = record {
  readied = λ now answer a e h free.
      let tick_right : IsRight (own_of t) (Ticks now T.Idle true answer) = subst (IsRight (own_of t)) e right in
      let k = some_ready a (moment t now) (own_of t).separate free (own_of t).deferred
      (is_kept a (moment t now) t law h) in
      (k.0.asked, tick_right ∙ ap (λ d. due_of T.Idle d true) k.1);
}

pub ready_when_due : (t : List Call) → AnswererLaw t → ReadyWhenDue t
ready_when_due [] law = tt
ready_when_due (c ∷ t) law = (is_readied t c law.1 law.0, ready_when_due t law.1)
