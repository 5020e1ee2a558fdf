-- A path has the delay that a call gave it, until a call gives another.
use Rattle.std.proofs.Common.{◌≡◌, inl, inr, ℕ, Bool, true, false, not, Some, List, [], ◌∷◌, ◌++◌, refl, ap}
use Rattle.std.proofs.Common.{◌∙◌, cond}
use Rattle.coap_types.specs.Past.{Ever}
use Rattle.coap_types.specs.Path.{same_path}
use Rattle.coap_types.proofs.Facts.Paths.{same_path-decides}
use Rattle.coap_types.proofs.Facts.Traces.{Ever_append}
use Rattle.coap_block.specs.Whole.{Each}
use Rattle.coap_resource.specs.Limits.{Limits}
use Rattle.coap_server.specs.Trace.{Delay, Call, Delays}
use Rattle.coap_server.specs.Deferring.{delay_of, others}
use Rattle.coap_server.specs.Law.{own_of}
use Rattle.coap_server_laws.specs.Follows.Delayed.{DelaysStay, sets_delay}

abbrev Has : List (List ℕ) → ℕ → Delay → Type 0
Has path ms d = (d.path ≡ path) × (d.ms ≡ ms)

found : (path : List (List ℕ)) (ms : ℕ) (ds : List Delay) → delay_of path ds ≡ Some ms → Ever (Has path ms) ds
found path ms [] h = absurd (cc h)
found path ms (d ∷ ds) h = by (same_path d.path path) refl h (found path ms ds)
  where
    by : (b : Bool) → same_path d.path path ≡ b → cond b (Some d.ms) (delay_of path ds) ≡ Some ms
        → (delay_of path ds ≡ Some ms → Ever (Has path ms) ds) → Ever (Has path ms) (d ∷ ds)
    by true is k f = inl ((same_path-decides d.path path).0 is, cc k)
    by false is k f = inr (f k)

among : (P : Delay → Type 0) (path : List (List ℕ)) (ds : List Delay) → Ever P (others path ds) → Ever P ds
among P path [] h = h
among P path (d ∷ ds) h = by (same_path d.path path) h (among P path ds)
  where
    by : (b : Bool) → Ever P (cond (not b) (d ∷ others path ds) (others path ds))
        → (Ever P (others path ds) → Ever P ds)
        → Ever P (d ∷ ds)
    by true k f = inr (f k)
    by false (inl k) f = inl k
    by false (inr k) f = inr (f k)

module _ (limits : Limits) (szx : ℕ) where
  abbrev Gave : List (List ℕ) → ℕ → List Call → Type 0
  Gave path ms t = Ever (λ c. c ≡ Delays path ms true) t

  gave : (path : List (List ℕ)) (ms : ℕ) (t : List Call) → Ever (Has path ms) (own_of limits szx t).delays
      → Gave path ms t
  gave path ms [] h = absurd h
  gave path ms (Delays p m true ∷ t) h =
      elim (Ever_append (Has path ms) (others p (own_of limits szx t).delays) (record { path = p; ms = m } ∷ []) h) [
        | inl k ↦ inr (gave path ms t (among (Has path ms) p (own_of limits szx t).delays k))
        | inr k ↦ elim k [
          | inl e ↦ inl (ap (λ q. Delays q m true) e.0 ∙ ap (λ n. Delays path n true) e.1)
          | inr e ↦ absurd e
        ]
      ]
  gave path ms (_ ∷ t) h = inr (gave path ms t h)

  kept : (t later : List Call) → Each (λ c. sets_delay c ≡ false) later
      → (own_of limits szx (later ++ t)).delays ≡ (own_of limits szx t).delays
  kept t [] h = refl
  kept t (Delays p m answer ∷ later) h = absurd (cc h.0)
  kept t (_ ∷ later) h = kept t later h.1

  pub delays_stay : (t : List Call) → DelaysStay limits szx t
  delays_stay t = record {
    given = λ path ms h. gave path ms t (found path ms (own_of limits szx t).delays h);
    stay = kept t;
  }
