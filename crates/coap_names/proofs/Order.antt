-- The order of the names that are not held, after each change.
use Rattle.std.proofs.Common.{◌≡◌, ℕ, ◌-◌, ◌≤◌, suc, Bool, true, false, List, [], ◌∷◌, length, Some, refl, sym, ap, ◌∙◌}
use Rattle.std.proofs.Common.{subst, arith, slice_get}
use Rattle.std.specs.Map.{lookup, remove_entry}
use Rattle.lru.specs.LruCache.{last_entry}
use Rattle.coap_names.specs.declared.names.Idle.{Idle}
use Rattle.coap_names.proofs.OrderOfIdle.{Descends}

module _ {K : Type 0} where
  pub descends_later : (a b : ℕ) (es : List (K × Idle)) → a ≤ b → Descends a es → Descends b es
  descends_later a b [] h d = tt
  descends_later a b (e ∷ es) h d = let x = d.0 in (omega arith, d.1)

  pub descends_removed : (test : K → Bool) (a : ℕ) (es : List (K × Idle)) → Descends a es
      → Descends a (remove_entry test es)
  descends_removed test a [] d = d
  descends_removed test a (e ∷ es) d = (elim (test e.0) as (λ b. test e.0 ≡ b
      → Descends a (remove_entry test (e ∷ es))) [
        | true ↦ λ t. rw t (descends_later e.1.at.0 a es d.0 d.1)
        | false ↦ λ t. rw t (d.0, descends_removed test e.1.at.0 es d.1)
      ]) refl

  -- each that is found is of no earlier moment than the last
  pub last_is_oldest : (test : K → Bool) (a : ℕ) (es : List (K × Idle)) (last : K × Idle) (p : Idle) → Descends a es
      → last_entry es ≡ Some last → lookup test es ≡ Some p → (last.1.at.0 ≤ p.at.0) × (last.1.at.0 ≤ a)
  last_is_oldest test a [] last p d l h = absurd cc
  last_is_oldest test a (e ∷ []) last p d l h =
      let is : e ≡ last = cc in
      let old : last.1.at.0 ≤ a = subst (λ x. x.1.at.0 ≤ a) is d.0 in
      (elim (test e.0) as (λ b. test e.0 ≡ b → (last.1.at.0 ≤ p.at.0) × (last.1.at.0 ≤ a)) [
        | true ↦ λ t. let it : e.1 ≡ p = (let h' = rw t at h in cc) in
            let same : last.1.at.0 ≡ p.at.0 = ap (λ x. x.1.at.0) (sym is) ∙ ap (λ x. x.at.0) it in
            (omega arith, old)
        | false ↦ λ t. absurd (let h' = rw t at h in cc)
      ]) refl
  last_is_oldest test a (e ∷ f ∷ es) last p d l h =
      let n : length (e ∷ f ∷ es) - 1 ≡ suc (length (f ∷ es) - 1) = omega arith in
      let rest : last_entry (f ∷ es) ≡ Some last = sym (ap (slice_get (e ∷ f ∷ es)) n) ∙ l in
      let bound : e.1.at.0 ≤ a = d.0 in
      (elim (test e.0) as (λ b. test e.0 ≡ b → (last.1.at.0 ≤ p.at.0) × (last.1.at.0 ≤ a)) [
        | true ↦ λ t. let it : e.1 ≡ p = (let h' = rw t at h in cc) in
            let same : e.1.at.0 ≡ p.at.0 = ap (λ x. x.at.0) it in
            let on = last_below e.1.at.0 (f ∷ es) last d.1 rest in (omega arith, omega arith)
        | false ↦ λ t. let on = last_is_oldest test e.1.at.0 (f ∷ es) last p d.1 rest (rw t at h) in
            let low = on.1 in (on.0, omega arith)
      ]) refl
    where
      last_below : (a : ℕ) (es : List (K × Idle)) (last : K × Idle) → Descends a es → last_entry es ≡ Some last
          → last.1.at.0 ≤ a
      last_below a [] last d l = absurd cc
      last_below a (e ∷ []) last d l = let is : e ≡ last = cc in subst (λ x. x.1.at.0 ≤ a) is d.0
      last_below a (e ∷ f ∷ es) last d l =
          let n : length (e ∷ f ∷ es) - 1 ≡ suc (length (f ∷ es) - 1) = omega arith in
          let bound : e.1.at.0 ≤ a = d.0 in
          let on = last_below e.1.at.0 (f ∷ es) last d.1 (sym (ap (slice_get (e ∷ f ∷ es)) n) ∙ l) in omega arith
