-- The tick's step, by the words and by the table.
use Rattle.std.proofs.Common.{◌≡◌, ◌⊎◌, inl, inr, ⊎_elim, ℕ, ◌*◌, ◌-◌, ◌<◌, ◌≤◌, Bool, true, false, List, [], ◌∷◌, refl}
use Rattle.std.proofs.Common.{ap, sym, ◌∙◌, subst, cond}
use Rattle.coap_types.specs.Past.{Ever}
use Rattle.coap_types.specs.declared.transmission.TheConstants.{MAX_RETRANSMIT as max_retransmit}
use Rattle.coap_types.specs.declared.transmission.TheConstants.{FAILURE_TIMEOUTS as failure_timeouts}
use Rattle.coap_layer.specs.BackOff.{factors}
use Rattle.coap_layer.specs.Trace.{Packet, Answer, Idle, Copied, Expired}
use Rattle.coap_layer.specs.Words.{Open}
use Rattle.coap_layer.specs.Machine.State.{is_due, is_copy_due, is_failed, tick_of, copies}
use Rattle.coap_layer.specs.Rows.{Fails, CopyDue, HasStep, IsFirst}
use Rattle.coap_layer.proofs.ListLemmas.{le_true, true_le, lt_true, true_lt, and_left, and_right, both, any_ever}
use Rattle.coap_layer.proofs.ListLemmas.{ever_any}

module _ (now : ℕ) where
  abbrev Due : Open → ℕ → Type 0
  Due c k = (c.last - c.first < c.timeout * k) × (c.timeout * k ≤ now - c.first)

  pub copy_due : (c : Open) → is_copy_due now c ≡ true → CopyDue now c
  copy_due c h = record {
    due = any_ever (is_due now c) (Due c) (λ k d. (lt_true _ _ (and_left _ _ d), le_true _ _ (and_right _ _ d)))
        (factors max_retransmit) (and_right _ _ h);
    early = le_true _ _ (and_left _ _ h);
  }

  pub due_copy : (c : Open) → CopyDue now c → is_copy_due now c ≡ true
  due_copy c h = both _ _ (true_le _ _ h.early)
      (ever_any (is_due now c) (Due c) (λ k d. both _ _ (true_lt _ _ d.0) (true_le _ _ d.1))
      (factors max_retransmit) h.due)

  -- what a tick does, where the list has a first step and where it has none
  abbrev pub TickIs : Answer → List Packet → List Open → Type 0
  TickIs answer out cs =
      ((con : Open) × IsFirst (HasStep now) con cs × Fails now con × (answer ≡ Expired con.to con.id) × (out ≡ []))
      ⊎ ((con : Open) × IsFirst (HasStep now) con cs × (Fails now con → ⊥) × (answer ≡ Copied con.to con.id)
      × (out ≡ record { to = con.to; bytes = con.bytes } ∷ []))
      ⊎ ((Ever (HasStep now) cs → ⊥) × (answer ≡ Idle) × (out ≡ []))

  not_failed : (c : Open) → is_failed now c ≡ false → Fails now c → ⊥
  not_failed c h f = let g = true_le (c.timeout * failure_timeouts) (now - c.first) f in cc (h, g)

  no_step : (c : Open) → is_failed now c ≡ false → is_copy_due now c ≡ false → HasStep now c → ⊥
  no_step c h k (inl f) = not_failed c h f
  no_step c h k (inr d) = let g = due_copy c d in cc (k, g)

  pub tick_is : (cs : List Open) → TickIs (tick_of now cs) (copies now cs) cs
  tick_is [] = inr (inr ((λ h. h), refl, refl))
  tick_is (c ∷ cs) = go (is_failed now c) (is_copy_due now c) refl refl (tick_is cs)
    where
      go : (f d : Bool) → is_failed now c ≡ f → is_copy_due now c ≡ d → TickIs (tick_of now cs) (copies now cs) cs
          → TickIs (cond f (Expired c.to c.id) (cond d (Copied c.to c.id) (tick_of now cs)))
          (cond f [] (cond d (record { to = c.to; bytes = c.bytes } ∷ []) (copies now cs))) (c ∷ cs)
      go true d hf hd r = inl (c, inl (refl, inl (le_true _ _ hf)), le_true _ _ hf, refl, refl)
      go false true hf hd r = inr (inl (c, inl (refl, inr (copy_due c hd)), not_failed c hf, refl, refl))
      go false false hf hd (inl r) = inl (r.0, inr (no_step c hf hd, r.1), r.2, r.3, r.4)
      go false false hf hd (inr (inl r)) = inr (inl (r.0, inr (no_step c hf hd, r.1), r.2, r.3, r.4))
      go false false hf hd (inr (inr r)) = inr (inr ((λ e. ⊎_elim (no_step c hf hd) r.0 e), r.1, r.2))

  -- the first step is one only
  pub first_one : (P : Open → Type 0) (a b : Open) (cs : List Open) → IsFirst P a cs → IsFirst P b cs → a ≡ b
  first_one P a b [] h k = absurd h
  first_one P a b (c ∷ cs) (inl h) (inl k) = sym h.0 ∙ k.0
  first_one P a b (c ∷ cs) (inl h) (inr k) = absurd (k.0 h.1)
  first_one P a b (c ∷ cs) (inr h) (inl k) = absurd (h.0 k.1)
  first_one P a b (c ∷ cs) (inr h) (inr k) = first_one P a b cs h.1 k.1

  pub first_ever : (P : Open → Type 0) (a : Open) (cs : List Open) → IsFirst P a cs → Ever P cs
  first_ever P a [] h = h
  first_ever P a (c ∷ cs) (inl h) = inl h.1
  first_ever P a (c ∷ cs) (inr h) = inr (first_ever P a cs h.1)

  -- so an answer that the words allow is the table's
  pub one_tick : (answer other : Answer) (out sent : List Packet) (cs : List Open) → TickIs answer out cs
      → TickIs other sent cs → (answer ≡ other) × (out ≡ sent)
  one_tick answer other out sent cs (inl r) (inl s) = let e =
      first_one (HasStep now) r.0 s.0 cs r.1 s.1 in (
        r.3 ∙ (ap (λ (c : Open). Expired c.to c.id) e ∙ sym s.3),
        r.4 ∙ sym s.4,
      )
  one_tick answer other out sent cs (inl r) (inr (inl s)) = let e =
      first_one (HasStep now) r.0 s.0 cs r.1 s.1 in absurd (s.2 (subst (Fails now) e r.2))
  one_tick answer other out sent cs (inl r) (inr (inr s)) = absurd (s.0 (first_ever (HasStep now) r.0 cs r.1))
  one_tick answer other out sent cs (inr (inl r)) (inl s) = let e =
      first_one (HasStep now) s.0 r.0 cs s.1 r.1 in absurd (r.2 (subst (Fails now) e s.2))
  one_tick answer other out sent cs (inr (inl r)) (inr (inl s)) =
      let e = first_one (HasStep now) r.0 s.0 cs r.1 s.1 in (
        r.3 ∙ (ap (λ (c : Open). Copied c.to c.id) e ∙ sym s.3),
        r.4 ∙ (ap (λ (c : Open). record { to = c.to; bytes = c.bytes } ∷ []) e ∙ sym s.4),
      )
  one_tick answer other out sent cs (inr (inl r)) (inr (inr s)) = absurd (s.0 (first_ever (HasStep now) r.0 cs r.1))
  one_tick answer other out sent cs (inr (inr r)) (inl s) = absurd (r.0 (first_ever (HasStep now) s.0 cs s.1))
  one_tick answer other out sent cs (inr (inr r)) (inr (inl s)) = absurd (r.0 (first_ever (HasStep now) s.0 cs s.1))
  one_tick answer other out sent cs (inr (inr r)) (inr (inr s)) = (r.1 ∙ sym s.1, r.2 ∙ sym s.2)
