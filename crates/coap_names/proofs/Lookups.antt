-- What a look-up finds in the list of names that are not held, after each change of it.
use Rattle.std.proofs.Common.{◌≡◌, ℕ, ◌-◌, ◌≤◌, suc, Bool, true, false, cond, List, [], ◌∷◌, length, take, Option, Some}
use Rattle.std.proofs.Common.{None, refl, sym, ap, ◌∙◌, subst, arith, slice_get}
use Rattle.std.specs.Cmp.{IsEquivalence}
use Rattle.std.specs.List.{IsDistinct, AllByRecursion}
use Rattle.std.specs.Option.{option_map_or}
use Rattle.std.specs.Map.{lookup, lookup_entry, remove_entry, set_value, keys_of}
use Rattle.std.proofs.lemmas.Map.{lookup-remove_entry}
use Rattle.lru.specs.LruCache.{last_entry}
use Rattle.coap_types.specs.declared.endpoint.Endpoint.{Endpoint}
use Rattle.coap_names.specs.declared.names.Idle.{Idle}
use Rattle.coap_names.specs.Tables.{touched, idle_at}

pub twice : {X : Type 0} (b : Bool) (x y z : X) → cond b x (cond b y z) ≡ cond b x z
twice true x y z = refl
twice false x y z = refl

-- what a look-up finds is the value of an entry
pub entry_of : {K X : Type 0} (test : K → Bool) (es : List (K × X)) (v : X) → lookup test es ≡ Some v
    → (k : K) × (test k ≡ true) × (lookup_entry test es ≡ Some (k, v))
entry_of test [] v h = absurd cc
entry_of {K = K} {X = X} test (e ∷ es) v h = (elim (test e.0) as (λ b. test e.0 ≡ b
    → (k : K) × (test k ≡ true) × (lookup_entry test (e ∷ es) ≡ Some (k, v))) [
      | true ↦ λ t. let is : e.1 ≡ v = (let h' = rw t at h in cc) in (e.0, t, rw t (λ i. Some (e.0, is i)))
      | false ↦ λ t. let on = entry_of test es v (rw t at h) in (on.0, on.1, rw t on.2)
    ]) refl

module _ {K : Type 0} {eq : K → K → Bool} (laws : IsEquivalence eq) where
  -- equal keys find the same
  pub lookup_same : {X : Type 0} (a b : K) (es : List (K × X)) → eq a b ≡ true → lookup (eq a) es ≡ lookup (eq b) es
  lookup_same a b [] h = refl
  lookup_same a b (e ∷ es) h =
      let rest = lookup_same a b es h in λ i. cond (laws.congr a b e.0 h i) (Some e.1) (rest i)

  pub lookup_first : {X : Type 0} (q k : K) (w : X) (es : List (K × X))
      → lookup (eq q) ((k, w) ∷ es) ≡ cond (eq k q) (Some w) (lookup (eq q) es)
  lookup_first q k w es = ap (λ b. cond b (Some w) (lookup (eq q) es)) (laws.symm q k)

  pub lookup_removed : {X : Type 0} (q k : K) (es : List (K × X)) → IsDistinct eq (keys_of es)
      → lookup (eq q) (remove_entry (eq k) es) ≡ cond (eq k q) None (lookup (eq q) es)
  lookup_removed q k es d = lookup-remove_entry laws (eq k) (laws.congr k) q es d

  -- what is touched goes first
  pub touched_is : (k : K) (p : Idle) (n : Endpoint) (at : ℕ) (es : List (K × Idle)) → lookup (eq k) es ≡ Some p
      → (k0 : K) × (eq k k0 ≡ true) × (touched (eq k) n at es ≡ (k0, idle_at n at) ∷ remove_entry (eq k) es)
  touched_is k p n at es h =
      let on = entry_of (eq k) es p h in (
        on.0,
        on.1,
        ap (λ (o : Option (K × Idle)). set_value (eq k) (option_map_or (λ e. e ∷ remove_entry (eq k) es) o es)
            (idle_at n at)) on.2
            ∙ ap (λ b. cond b ((on.0, idle_at n at) ∷ remove_entry (eq k) es)
            ((on.0, p) ∷ set_value (eq k) (remove_entry (eq k) es) (idle_at n at))) on.1,
      )

  pub lookup_touched : (q k : K) (p : Idle) (n : Endpoint) (at : ℕ) (es : List (K × Idle))
      → IsDistinct eq (keys_of es) → lookup (eq k) es ≡ Some p
      → lookup (eq q) (touched (eq k) n at es) ≡ cond (eq k q) (Some (idle_at n at)) (lookup (eq q) es)
  lookup_touched q k p n at es d h =
      let t = touched_is k p n at es h in
      let w = Some (idle_at n at) in
      let same : eq q t.0 ≡ eq k q = laws.symm q t.0 ∙ sym (laws.congr k t.0 q t.1) in
      ap (lookup (eq q)) t.2
      ∙ (ap (λ b. cond b w (lookup (eq q) (remove_entry (eq k) es))) same
      ∙ (ap (cond (eq k q) w) (lookup_removed q k es d) ∙ twice (eq k q) w None (lookup (eq q) es)))

  all_at_last : {X : Type 0} (P : K → Type 0) (es : List (K × X)) (gone : K × X) → last_entry es ≡ Some gone
      → AllByRecursion P (keys_of es) → P gone.0
  all_at_last P [] gone h all = absurd cc
  all_at_last P (e ∷ []) gone h all = let is : e ≡ gone = cc in subst (λ x. P x.0) is all.0
  all_at_last P (e ∷ f ∷ es) gone h all =
      let n : length (e ∷ f ∷ es) - 1 ≡ suc (length (f ∷ es) - 1) = omega arith in
      all_at_last P (f ∷ es) gone (sym (ap (slice_get (e ∷ f ∷ es)) n) ∙ h) all.1

  -- all but the last are those without its key
  pub last_removed : {X : Type 0} (es : List (K × X)) (gone : K × X) → last_entry es ≡ Some gone
      → IsDistinct eq (keys_of es) → take (length es - 1) es ≡ remove_entry (eq gone.0) es
  unfolding IsDistinct
  last_removed [] gone h d = absurd cc
  last_removed (e ∷ []) gone h d =
      let is : e ≡ gone = cc in
      sym (ap (λ b. cond b [] (e ∷ [])) (subst (λ x. eq x.0 e.0 ≡ true) is (laws.refl e.0)))
  last_removed (e ∷ f ∷ es) gone h d =
      let n : length (e ∷ f ∷ es) - 1 ≡ suc (length (f ∷ es) - 1) = omega arith in
      let rest : last_entry (f ∷ es) ≡ Some gone = sym (ap (slice_get (e ∷ f ∷ es)) n) ∙ h in
      let other : eq gone.0 e.0 ≡ false =
      laws.symm gone.0 e.0 ∙ all_at_last (λ k. eq e.0 k ≡ false) (f ∷ es) gone rest d.0 in
      ap (λ m. take m (e ∷ f ∷ es)) n
      ∙ (ap (λ l. e ∷ l) (last_removed (f ∷ es) gone rest d.1)
      ∙ sym (ap (λ b. cond b (f ∷ es) (e ∷ remove_entry (eq gone.0) (f ∷ es))) other))

  -- the last is found under its key
  pub lookup_last : {X : Type 0} (es : List (K × X)) (gone : K × X) → last_entry es ≡ Some gone
      → IsDistinct eq (keys_of es) → lookup (eq gone.0) es ≡ Some gone.1
  unfolding IsDistinct
  lookup_last [] gone h d = absurd cc
  lookup_last (e ∷ []) gone h d =
      let is : e ≡ gone = cc in
      ap (λ b. cond b (Some e.1) None) (subst (λ x. eq x.0 e.0 ≡ true) is (laws.refl e.0)) ∙ ap (λ x. Some x.1) is
  lookup_last (e ∷ f ∷ es) gone h d =
      let n : length (e ∷ f ∷ es) - 1 ≡ suc (length (f ∷ es) - 1) = omega arith in
      let rest : last_entry (f ∷ es) ≡ Some gone = sym (ap (slice_get (e ∷ f ∷ es)) n) ∙ h in
      let other : eq gone.0 e.0 ≡ false =
      laws.symm gone.0 e.0 ∙ all_at_last (λ k. eq e.0 k ≡ false) (f ∷ es) gone rest d.0 in
      ap (λ b. cond b (Some e.1) (lookup (eq gone.0) (f ∷ es))) other ∙ lookup_last (f ∷ es) gone rest d.1

pub length-removed_le : {K V : Type 0} (test : K → Bool) (es : List (K × V)) → length (remove_entry test es) ≤ length es
length-removed_le test [] = omega arith
length-removed_le test (e ∷ es) = (elim (test e.0) as (λ b. test e.0 ≡ b
    → length (remove_entry test (e ∷ es)) ≤ length (e ∷ es)) [
      | true ↦ λ t. rw t (omega arith)
      | false ↦ λ t. let on = length-removed_le test es in rw t (omega arith)
    ]) refl
