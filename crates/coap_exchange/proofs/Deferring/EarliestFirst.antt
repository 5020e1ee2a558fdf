-- Of the deferred requests that are due, the one that was deferred first is ready.
use Rattle.std.proofs.Common.{◌≡◌, ◌≢◌, ◌≤◌, ◌⊎◌, inl, inr, ℕ, ◌+◌, Bool, true, false, Some, List, [], ◌∷◌, ◌++◌}
use Rattle.std.proofs.Common.{length, refl, ap, sym, subst, ◌∙◌, cond, arith, not}
use Rattle.std.specs.Option.{option_map}
use Rattle.coap_types.specs.Past.{Sometime}
use Rattle.coap_types.proofs.Facts.Traces.{Sometime_map}
use Rattle.coap_exchange.specs.declared.answerer.Asked.{Asked}
use Rattle.coap_exchange.specs.declared.answerer.Due.TheVariants as due
use Rattle.coap_exchange.specs.declared.separate.Deferred.{Deferred}
use Rattle.coap_exchange.specs.declared.separate.Separate.{Separate}
use Rattle.coap_exchange.specs.AnswererTrace.{Call, Defers, Ticks, Responds, Forgets}
use Rattle.coap_types.specs.declared.endpoint.Endpoint.{Endpoint}
use Rattle.coap_types.specs.SameEndpoint.{same_endpoint}
use Rattle.coap_types.proofs.Facts.Endpoints.{same_endpoint_is}
use Rattle.coap_exchange.specs.AnswererSteps.{IsRight, is_waited_for, is_ready, first_ready, without_ready, ready_at}
use Rattle.coap_exchange.specs.AnswererSteps.{deferred_elsewhere}
use Rattle.coap_exchange.specs.AnswererLaw.{own_of, AnswererLaw}
use Rattle.coap_exchange.specs.AnswererDeferrals.{moment, DefersUntil, IsDueFrom, IsEarliest, EarliestReady}
use Rattle.coap_exchange.proofs.Deferring.LongEnough.{DefersAs, AllStand, passed_by, later_clock, long_so, ready_now}
use Rattle.coap_exchange.proofs.Deferring.LongEnough.{rises_at}
use Rattle.coap_exchange.proofs.Calls.ServerTicks.{due_ready}

-- deferred when there were n calls at most

abbrev NoLater : ℕ → List Call → Deferred → Type 0
NoLater n t d = Sometime (λ old c. DefersAs d old c × (length old ≤ n)) t × (d.at.0 ≤ (own_of t).clock)

in_all : (d : Deferred) (n : ℕ) (t : List Call) → length t ≤ n → Sometime (DefersAs d) t
    → Sometime (λ old c. DefersAs d old c × (length old ≤ n)) t
in_all d n [] le h = h
in_all d n (c ∷ t) le (inl h) = inl (h, omega (arith, le))
in_all d n (c ∷ t) le (inr h) = inr (in_all d n t (omega (arith, le)) h)

no_later_then : (n : ℕ) (c : Call) (t : List Call) (d : Deferred) → (own_of t).clock ≤ (own_of (c ∷ t)).clock
    → NoLater n t d → NoLater n (c ∷ t) d
no_later_then n c t d later h = let k = h.1 in (inr h.0, omega (arith, k, later))

module _ (n : ℕ) (a : Asked) (at : ℕ) where
  -- it is kept, and so are those before it
  abbrev Has : List Call → List Deferred → Type 0
  Has t [] = ⊥
  Has t (d ∷ ds) = NoLater n t d × (((d.asked ≡ a) × (d.at.0 + d.delay ≤ at)) ⊎ Has t ds)

  has_later : (c : Call) (t : List Call) → (own_of t).clock ≤ (own_of (c ∷ t)).clock → (ds : List Deferred) → Has t ds
      → Has (c ∷ t) ds
  has_later c t later [] h = h
  has_later c t later (d ∷ ds) h = (
    no_later_then n c t d later h.0,
    elim h.1 as (λ u. ((d.asked ≡ a) × (d.at.0 + d.delay ≤ at)) ⊎ Has (c ∷ t) ds)
        [ inl p ↦ inl p | inr q ↦ inr (has_later c t later ds q) ],
  )

  has_before : (t : List Call) (ds : List Deferred) (d : Deferred) → Has t ds → Has t (ds ++ d ∷ [])
  has_before t [] d h = absurd h
  has_before t (e ∷ ds) d h = (
    h.0,
    elim h.1 as (λ u. ((e.asked ≡ a) × (e.at.0 + e.delay ≤ at)) ⊎ Has t (ds ++ d ∷ []))
        [ inl p ↦ inl p | inr q ↦ inr (has_before t ds d q) ],
  )

  has_last : (c : Call) (t : List Call) → length t ≤ n → (own_of t).clock ≤ (own_of (c ∷ t)).clock
      → (ds : List Deferred) (d : Deferred) → AllStand t ds → NoLater n (c ∷ t) d → d.asked ≡ a → d.at.0 + d.delay ≤ at
      → Has (c ∷ t) (ds ++ d ∷ [])
  has_last c t le later [] d s k e h = (k, inl (e, h))
  has_last c t le later (x ∷ ds) d s k e h = (
    no_later_then n c t x later (in_all x n t le s.0.0, s.0.1),
    inr (has_last c t le later ds d s.1 k e h),
  )

  module _ (t : List Call) (moment_is : ℕ) (xs : List Separate) (b : Asked) (other : Some b ≢ Some a) where
    has_by : (d : Deferred) (ds : List Deferred) (w : Bool)
        → option_map (λ (e : Deferred). e.asked) (cond w (Some d) (first_ready moment_is xs ds)) ≡ Some b
        → (option_map (λ (e : Deferred). e.asked) (first_ready moment_is xs ds) ≡ Some b → Has t ds
        → Has t (without_ready moment_is xs ds)) → NoLater n t d
        → ((d.asked ≡ a) × (d.at.0 + d.delay ≤ at)) ⊎ Has t ds → Has t (cond w ds (d ∷ without_ready moment_is xs ds))
    has_by d ds true is ih k (inl h) = absurd (other (sym is ∙ ap (λ x. Some x) h.0))
    has_by d ds true is ih k (inr h) = h
    has_by d ds false is ih k (inl h) = (k, inl h)
    has_by d ds false is ih k (inr h) = (k, inr (ih is h))

    has_without : (ds : List Deferred) → option_map (λ (e : Deferred). e.asked) (first_ready moment_is xs ds) ≡ Some b
        → Has t ds → Has t (without_ready moment_is xs ds)
    has_without [] is h = absurd h
    has_without (d ∷ ds) is h = has_by d ds (is_ready moment_is xs d) is (has_without ds) h.0 h.1

  -- of another peer
  module _ (t : List Call) (peer : Endpoint) (other : Some peer ≢ Some a.from) where
    kept_by : (d : Deferred) (ds : List Deferred) (w : Bool) → same_endpoint d.asked.from peer ≡ w
        → (Has t ds → Has t (deferred_elsewhere peer ds)) → NoLater n t d
        → ((d.asked ≡ a) × (d.at.0 + d.delay ≤ at)) ⊎ Has t ds
        → Has t (cond (not w) (d ∷ deferred_elsewhere peer ds) (deferred_elsewhere peer ds))
    kept_by d ds true is ih k (inl h) =
        let there : d.asked.from ≡ peer = same_endpoint_is d.asked.from peer is in
        absurd (other (ap (λ p. Some p) (sym there ∙ ap (λ (x : Asked). x.from) h.0)))
    kept_by d ds true is ih k (inr h) = ih h
    kept_by d ds false is ih k (inl h) = (k, inl h)
    kept_by d ds false is ih k (inr h) = (k, inr (ih h))

    has_elsewhere : (ds : List Deferred) → Has t ds → Has t (deferred_elsewhere peer ds)
    has_elsewhere [] h = absurd h
    has_elsewhere (d ∷ ds) h = kept_by d ds (same_endpoint d.asked.from peer) refl (has_elsewhere ds) h.0 h.1

  abbrev Keeps : List Call → Type 0
  Keeps t = IsDueFrom n a at t → Has t (own_of t).deferred

  quiet_due : (c : Call) (t : List Call) → (own_of t).clock ≤ (own_of (c ∷ t)).clock
      → ((now delay : ℕ) → c ≡ Defers now a delay true → ⊥) → Keeps t → IsDueFrom n a at (c ∷ t)
      → Has (c ∷ t) (own_of t).deferred
  quiet_due c t later none ih (inl h) = absurd (none h.0.now h.0.delay h.0.defers)
  quiet_due c t later none ih (inr h) = has_later c t later (own_of t).deferred (ih h.1)

  defers_due : (now : ℕ) (b : Asked) (delay : ℕ) (t : List Call) → AllStand t (own_of t).deferred → Keeps t
      → Keeps (Defers now b delay true ∷ t)
  defers_due now b delay t stand ih (inl h) =
      let same : b ≡ a = cc h.0.defers in
      let now_is : now ≡ h.0.now = cc h.0.defers in
      let long : delay ≡ h.0.delay = cc h.0.defers in
      let place = h.1 in
      has_last (Defers now b delay true) t (omega (arith, place)) (later_clock (own_of t).clock now) (own_of t).deferred
      (record { asked = b; at = record { 0 = moment t now }; delay = delay }) stand
      (inl (record { now = now; defers = refl; at = refl }, omega (arith, place)), omega (arith)) same
      (until h.0.now h.0.delay now_is long h.0.passed)
    where
      until : (m k : ℕ) → now ≡ m → delay ≡ k → moment t m + k ≤ at → moment t now + delay ≤ at
      until m k p q h = subst (λ z. moment t now + z ≤ at) (sym q) (subst (λ z. moment t z + k ≤ at) (sym p) h)
  defers_due now b delay t stand ih (inr h) =
      has_before (Defers now b delay true ∷ t) (own_of t).deferred
      (record { asked = b; at = record { 0 = moment t now }; delay = delay })
      (has_later (Defers now b delay true) t (later_clock (own_of t).clock now) (own_of t).deferred (ih h.1))

  responds_due : (now : ℕ) (b : Asked) (r : _) (word id : ℕ) (t : List Call)
      → IsRight (own_of t) (Responds now b r word id) → Keeps t → Keeps (Responds now b r word id ∷ t)
  responds_due now b r word id t right ih (inl h) = absurd (cc h.0.defers)
  responds_due now b r word id t right ih (inr h) =
      has_without (Responds now b r word id ∷ t) (moment t now) (own_of t).separate b h.0.0 (own_of t).deferred right.0
      (has_later (Responds now b r word id) t (later_clock (own_of t).clock now) (own_of t).deferred (ih h.1))

  forgets_due : (peer : Endpoint) (t : List Call) → Keeps t → Keeps (Forgets peer ∷ t)
  forgets_due peer t ih (inl h) = absurd (cc h.0.defers)
  forgets_due peer t ih (inr h) =
      has_elsewhere (Forgets peer ∷ t) peer h.0.1 (own_of t).deferred
      (has_later (Forgets peer) t (rises_at t (Forgets peer)) (own_of t).deferred (ih h.1))

  is_kept : (t : List Call) → AnswererLaw t → Keeps t
  is_kept [] law h = absurd h
  is_kept (Defers now b delay true ∷ t) law h = defers_due now b delay t (long_so t law.1).1 (is_kept t law.1) h
  is_kept (Responds now b r word id ∷ t) law h = responds_due now b r word id t law.0 (is_kept t law.1) h
  is_kept (Forgets peer ∷ t) law h = forgets_due peer t (is_kept t law.1) h
  is_kept (c ∷ t) law h = quiet_due c t (rises_at t c) (λ n k e. cc e) (is_kept t law.1) h

  -- the first that is ready is that one or one before it
  module _ (t : List Call) (clock : (own_of t).clock ≤ at) (xs : List Separate) (free : is_waited_for a.from xs ≡ false)
      (b : Asked) where
    abbrev Early : Asked → Type 0
    Early x = Sometime (λ old c. DefersUntil x at old c × (length old ≤ n)) t

    early : (d : Deferred) → NoLater n t d → is_ready at xs d ≡ true → Early d.asked
    early d k h =
        let since = k.1 in
        let passed = passed_by t at xs d.delay d.at.0 (not (is_waited_for d.asked.from xs))
        (omega (arith, since, clock)) h in
        Sometime_map (λ old c. DefersAs d old c × (length old ≤ n))
        (λ old c. DefersUntil d.asked at old c × (length old ≤ n))
        (λ past c k. (
          record {
            now = k.0.now;
            delay = d.delay;
            defers = k.0.defers;
            passed = subst (λ m. m + d.delay ≤ at) k.0.at passed;
          },
          k.1,
        )) t k.0

    first_by : (d : Deferred) (ds : List Deferred) (w : Bool) → is_ready at xs d ≡ w → NoLater n t d
        → ((d.asked ≡ a) × (d.at.0 + d.delay ≤ at)) ⊎ Has t ds
        → (Has t ds → option_map (λ (e : Deferred). e.asked) (first_ready at xs ds) ≡ Some b → Early b)
        → option_map (λ (e : Deferred). e.asked) (cond w (Some d) (first_ready at xs ds)) ≡ Some b → Early b
    first_by d ds true is k h ih e = let same : d.asked ≡ b = cc e in subst Early same (early d k is)
    first_by d ds false is k (inl h) ih e = let r = ready_now a at xs free d h.0 h.1 in absurd (cc (r, is))
    first_by d ds false is k (inr h) ih e = ih h e

    first_early : (ds : List Deferred) → Has t ds
        → option_map (λ (e : Deferred). e.asked) (first_ready at xs ds) ≡ Some b → Early b
    first_early [] h e = absurd h
    first_early (d ∷ ds) h e = first_by d ds (is_ready at xs d) refl h.0 h.1 (first_early ds) e

is_earliest : (t : List Call) (c : Call) → AnswererLaw t → IsRight (own_of t) c → IsEarliest t c
is_earliest t c law right = record {
  earliest = λ now below room b e n a h free.
      let tick_right : IsRight (own_of t) (Ticks now below room (due.Ready b)) = subst (IsRight (own_of t)) e right in
      let k = due_ready below (ready_at (own_of t) now) room b (sym tick_right) in
      first_early n a (moment t now) t (later_clock (own_of t).clock now) (own_of t).separate free b (own_of t).deferred
      (is_kept n a (moment t now) t law h) k.1;
}

pub earliest : (t : List Call) → AnswererLaw t → EarliestReady t
earliest [] law = tt
earliest (c ∷ t) law = (is_earliest t c law.1 law.0, earliest t law.1)
