-- Where few come in each EXCHANGE_LIFETIME, few come in all.
use Rattle.std.proofs.Common.{◌≡◌, ◌⊎◌, inl, inr, ⊎_elim, ℕ, zero, suc, ◌+◌, ◌*◌, ◌≤◌, ◌<◌, nat_le, Bool, true, false}
use Rattle.std.proofs.Common.{List, [], ◌∷◌, refl, arith, cond, ◌&&◌, subst}
use Rattle.std.proofs.Math.Nat.{suc-mul}
use Rattle.std.proofs.lemmas.Bool.{le-leb, leb-true, cases_lt}
use Rattle.coap_types.specs.Past.{Always}
use Rattle.coap_types.specs.declared.transmission.TheConstants.{EXCHANGE_LIFETIME_MS as exchange_lifetime}
use Rattle.coap_types.specs.declared.transmission.TheConstants.{ID_REUSE_AFTER_MS as id_reuse_after}
use Rattle.coap_layer.specs.Taking.{is_then}
use Rattle.coap_exchange.specs.Counts.{count_since, count_then, AreFew}

and_both : (a b : Bool) → a ≡ true → b ≡ true → (a && b) ≡ true
and_both a b h k = cc (h, k)

-- one call more
one_more : (k b : Bool) (n : ℕ) → n ≤ cond (k && b) (1 + n) n
one_more true true n = omega arith
one_more true false n = omega arith
one_more false b n = omega arith

module _ {Call : Type 0} (clock : List Call → ℕ) (counted : Call → Bool) where
  -- the moments don't fall
  abbrev pub Rises : List Call → Type 0
  Rises t = Always (λ past c. clock past ≤ clock (c ∷ past)) t

  pub since_more : (u : ℕ) (c : Call) (t : List Call) → count_since clock counted u t ≤ count_since clock counted u
      (c ∷ t)
  since_more u c t = one_more (counted c) (nat_le u (clock (c ∷ t))) (count_since clock counted u t)

  -- one that is counted, at that moment or later
  pub since_one : (u : ℕ) (c : Call) (t : List Call) → counted c ≡ true → u ≤ clock (c ∷ t)
      → count_since clock counted u (c ∷ t) ≡ 1 + count_since clock counted u t
  since_one u c t is le = by (counted c && nat_le u (clock (c ∷ t)))
      (and_both (counted c) _ is (le-leb u (clock (c ∷ t)) le)) (count_since clock counted u t)
    where
      by : (b : Bool) → b ≡ true → (n : ℕ) → cond b (1 + n) n ≡ 1 + n
      by true e n = refl
      by false e n = absurd (cc e)

  -- few in all, few before
  pub few_before : (most : ℕ) (c : Call) (t : List Call) → AreFew clock counted most (c ∷ t)
      → AreFew clock counted most t
  few_before most c t few since =
      let a = few since in
      let b = one_more (counted c) (is_then since (clock (c ∷ t))) (count_then clock counted since t) in
      omega (arith, a, b)

  -- none behind the latest moment
  pub none_since : (u : ℕ) (t : List Call) → Rises t → clock t < u → count_since clock counted u t ≡ 0
  none_since u [] rises less = refl
  none_since u (c ∷ t) rises less =
      by (counted c) (nat_le u (clock (c ∷ t))) (λ e. let k = leb-true u (clock (c ∷ t)) e in absurd
      (omega (arith, k, less)))
      (count_since clock counted u t)
      (none_since u t rises.1 (let k = rises.0 in omega (arith, k, less)))
    where
      by : (k b : Bool) → (b ≡ true → ⊥) → (n : ℕ) → n ≡ 0 → cond (k && b) (1 + n) n ≡ 0
      by k true f n e = absurd (f refl)
      by true false f n e = e
      by false false f n e = e

  -- those of one EXCHANGE_LIFETIME, and those behind it
  pub next_lifetime : (u : ℕ) (t : List Call)
      → count_since clock counted u t
      ≤ count_then clock counted u t + count_since clock counted (u + (exchange_lifetime + 1)) t
  next_lifetime u [] = omega arith
  next_lifetime u (c ∷ t) =
      by (counted c) (nat_le u at) (is_then u at) (nat_le (u + (exchange_lifetime + 1)) at) which _ _ _
      (next_lifetime u t)
    where
      at : ℕ
      at = clock (c ∷ t)

      which : nat_le u at ≡ true
          → (is_then u at ≡ true) ⊎ (nat_le (u + (exchange_lifetime + 1)) at ≡ true)
      which h =
          let from = leb-true u at h in
          ⊎_elim (λ late. inr (le-leb (u + (exchange_lifetime + 1)) at (omega (arith, late))))
          (λ soon. inl (and_both _ _ h (le-leb at (u + exchange_lifetime) (omega (arith, soon)))))
          (cases_lt (u + exchange_lifetime) at)

      by : (k b d e : Bool) → (b ≡ true → (d ≡ true) ⊎ (e ≡ true)) → (x y z : ℕ) → x ≤ y + z
          → cond (k && b) (1 + x) x ≤ cond (k && d) (1 + y) y + cond (k && e) (1 + z) z
      by false b d e f x y z h = h
      by true false true true f x y z h = omega (arith, h)
      by true false true false f x y z h = omega (arith, h)
      by true false false true f x y z h = omega (arith, h)
      by true false false false f x y z h = omega (arith, h)
      by true true true true f x y z h = omega (arith, h)
      by true true true false f x y z h = omega (arith, h)
      by true true false true f x y z h = omega (arith, h)
      by true true false false f x y z h = absurd (⊎_elim (λ a. cc a) (λ a. cc a) (f refl))

  -- in so many lifetimes
  pub lifetimes : (most less : ℕ) (t : List Call) → AreFew clock counted most t → most ≤ less + 1 → (k u : ℕ)
      → count_since clock counted u t ≤ k * less + count_since clock counted (u + k * (exchange_lifetime + 1)) t
  lifetimes most less t few le zero u =
      let same : u ≡ u + zero * (exchange_lifetime + 1) = omega arith in
      let h : count_since clock counted u t ≤ zero * less + count_since clock counted u t = omega arith in
      subst (λ v. count_since clock counted u t ≤ zero * less + count_since clock counted v t) same h
  lifetimes most less t few le (suc k) u =
      let a = few u in
      let b = next_lifetime u t in
      let h = lifetimes most less t few le k (u + (exchange_lifetime + 1)) in
      let m = suc-mul k less in
      let l = suc-mul k (exchange_lifetime + 1) in
      let same : u + (exchange_lifetime + 1) + k * (exchange_lifetime + 1) ≡ u + suc k * (exchange_lifetime + 1) =
      omega (arith, l) in
      let h' : count_since clock counted (u + (exchange_lifetime + 1)) t
      ≤ k * less + count_since clock counted (u + suc k * (exchange_lifetime + 1)) t =
      subst (λ v. count_since clock counted (u + (exchange_lifetime + 1)) t
      ≤ k * less + count_since clock counted v t) same h in
      omega (arith, a, b, h', m, le)

  -- .. while no Message ID is given again
  pub since_reuse : (most less u now : ℕ) (t : List Call) → Rises t → AreFew clock counted most t → most ≤ less + 1
      → clock t ≤ now → now ≤ u + id_reuse_after → count_since clock counted u t ≤ 2 * less
  since_reuse most less u now t rises few le till young =
      let a = lifetimes most less t few le 2 u in
      let b = none_since (u + 2 * (exchange_lifetime + 1)) t rises (omega (arith, till, young)) in
      omega (arith, a, b)
