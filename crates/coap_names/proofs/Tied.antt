-- A name and its key are each other's, after each change: said of them as functions.
use Rattle.std.proofs.Common.{◌≡◌, ℕ, ◌+◌, ◌<◌, Bool, true, false, cond, Option, Some, None, refl, sym, ap, ◌∙◌}
use Rattle.std.proofs.Common.{subst, arith}
use Rattle.std.specs.Cmp.{IsEquivalence}
use Rattle.coap_types.specs.declared.endpoint.Endpoint.{Endpoint}
use Rattle.coap_types.specs.SameEndpoint.{same_endpoint}
use Rattle.coap_types.proofs.Facts.Endpoints.{same_endpoint_is, same_endpoint_self}
use Rattle.coap_names.specs.Numbered.{number_of, numbered}

module _ {K : Type 0} (eq : K → K → Bool) where
  -- the names of the keys and the keys of the names are each other's, and each name is one of those that were given
  pub record Tied (name : K → Option Endpoint) (key : Endpoint → Option K) (given : ℕ) : Type 0 where
    pub forth : (q : K) (n : Endpoint) → name q ≡ Some n → (k : K) × (key n ≡ Some k) × (eq q k ≡ true)
    pub back : (n : Endpoint) (k : K) → key n ≡ Some k → name k ≡ Some n
    pub known : (n : Endpoint) (k : K) → key n ≡ Some k → number_of n < given
    pub made : (n : Endpoint) (k : K) → key n ≡ Some k → numbered (number_of n) ≡ n

  pub same_tied : (name name' : K → Option Endpoint) (key key' : Endpoint → Option K) (given : ℕ)
      → ((q : K) → name' q ≡ name q) → ((n : Endpoint) → key' n ≡ key n) → Tied name key given → Tied name' key' given
  same_tied name name' key key' given names keys t = record {
    forth = λ q n h. let on = t.forth q n (sym (names q) ∙ h) in (on.0, keys n ∙ on.1, on.2);
    back = λ n k h. names k ∙ t.back n k (sym (keys n) ∙ h);
    known = λ n k h. t.known n k (sym (keys n) ∙ h);
    made = λ n k h. t.made n k (sym (keys n) ∙ h);
  }

module _ {K : Type 0} {eq : K → K → Bool} (laws : IsEquivalence eq) (name name' : K → Option Endpoint)
    (key key' : Endpoint → Option K) (given : ℕ) (alike : (a b : K) → eq a b ≡ true → name a ≡ name b) where
  -- the key of a name, and it equals this one
  abbrev Owner : K → Endpoint → Type 0
  Owner q n = (k : K) × (key' n ≡ Some k) × (eq q k ≡ true)

  -- a name that is new, for a key that has none
  pub fresh_tied : (k0 : K) (n0 : Endpoint) → number_of n0 ≡ given → numbered (number_of n0) ≡ n0 → name k0 ≡ None
      → ((q : K) → name' q ≡ cond (eq k0 q) (Some n0) (name q))
      → ((n : Endpoint) → key' n ≡ cond (same_endpoint n0 n) (Some k0) (key n))
      → Tied eq name key given → Tied eq name' key' (given + 1)
  fresh_tied k0 n0 number whole none names keys t = record { forth = forth; back = back; known = known; made = made }
    where
      forth : (q : K) (n : Endpoint) → name' q ≡ Some n → (k : K) × (key' n ≡ Some k) × (eq q k ≡ true)
      forth q n h = (elim (eq k0 q) as (λ b. eq k0 q ≡ b → Owner q n) [
        | true ↦ λ e.
            let is : n0 ≡ n = (let a = names q ∙ ap (λ b. cond b (Some n0) (name q)) e in cc) in
            let same : same_endpoint n0 n ≡ true = subst (λ m. same_endpoint n0 m ≡ true) is (same_endpoint_self n0) in
            (k0, keys n ∙ ap (λ b. cond b (Some k0) (key n)) same, laws.symm q k0 ∙ e)
        | false ↦ λ e.
            let on = t.forth q n (sym (names q ∙ ap (λ b. cond b (Some n0) (name q)) e) ∙ h) in
            (elim (same_endpoint n0 n) as (λ b. same_endpoint n0 n ≡ b → Owner q n) [
              | true ↦ λ s.
                  let is = ap number_of (same_endpoint_is n0 n s) in
                  let small = t.known n on.0 on.1 in absurd (omega arith)
              | false ↦ λ s. (on.0, keys n ∙ (ap (λ b. cond b (Some k0) (key n)) s ∙ on.1), on.2)
            ]) refl
      ]) refl

      back : (n : Endpoint) (k : K) → key' n ≡ Some k → name' k ≡ Some n
      back n k h = (elim (same_endpoint n0 n) as (λ b. same_endpoint n0 n ≡ b → name' k ≡ Some n) [
        | true ↦ λ s.
            let is : k0 ≡ k = (let a = keys n ∙ ap (λ b. cond b (Some k0) (key n)) s in cc) in
            names k ∙ (ap (λ b. cond b (Some n0) (name k)) (subst (λ x. eq k0 x ≡ true) is (laws.refl k0))
            ∙ ap Some (same_endpoint_is n0 n s))
        | false ↦ λ s.
            let on = t.back n k (sym (keys n ∙ ap (λ b. cond b (Some k0) (key n)) s) ∙ h) in
            (elim (eq k0 k) as (λ b. eq k0 k ≡ b → name' k ≡ Some n) [
              | true ↦ λ e. absurd (let a = alike k0 k e in cc)
              | false ↦ λ e. names k ∙ (ap (λ b. cond b (Some n0) (name k)) e ∙ on)
            ]) refl
      ]) refl

      known : (n : Endpoint) (k : K) → key' n ≡ Some k → number_of n < given + 1
      known n k h = (elim (same_endpoint n0 n) as (λ b. same_endpoint n0 n ≡ b → number_of n < given + 1) [
        | true ↦ λ s. let is = ap number_of (same_endpoint_is n0 n s) in omega arith
        | false ↦ λ s. let small = t.known n k (sym (keys n ∙ ap (λ b. cond b (Some k0) (key n)) s) ∙ h) in omega arith
      ]) refl

      made : (n : Endpoint) (k : K) → key' n ≡ Some k → numbered (number_of n) ≡ n
      made n k h = (elim (same_endpoint n0 n) as (λ b. same_endpoint n0 n ≡ b → numbered (number_of n) ≡ n) [
        | true ↦ λ s. subst (λ m. numbered (number_of m) ≡ m) (same_endpoint_is n0 n s) whole
        | false ↦ λ s. t.made n k (sym (keys n ∙ ap (λ b. cond b (Some k0) (key n)) s) ∙ h)
      ]) refl

  -- a key that is forgotten, with its name
  pub gone_tied : (k0 : K) (n0 : Endpoint) → name k0 ≡ Some n0
      → ((q : K) → name' q ≡ cond (eq k0 q) None (name q))
      → ((n : Endpoint) → key' n ≡ cond (same_endpoint n0 n) None (key n))
      → Tied eq name key given → Tied eq name' key' given
  gone_tied k0 n0 has names keys t = record { forth = forth; back = back; known = known; made = made }
    where
      kept : (n : Endpoint) (k : K) → key' n ≡ Some k → (same_endpoint n0 n ≡ false) × (key n ≡ Some k)
      kept n k h = (elim (same_endpoint n0 n) as (λ b. same_endpoint n0 n ≡ b
          → (same_endpoint n0 n ≡ false) × (key n ≡ Some k)) [
            | true ↦ λ s. absurd (let a = keys n ∙ ap (λ b. cond b None (key n)) s in cc)
            | false ↦ λ s. (s, sym (keys n ∙ ap (λ b. cond b None (key n)) s) ∙ h)
          ]) refl

      forth : (q : K) (n : Endpoint) → name' q ≡ Some n → (k : K) × (key' n ≡ Some k) × (eq q k ≡ true)
      forth q n h = (elim (eq k0 q) as (λ b. eq k0 q ≡ b → Owner q n) [
        | true ↦ λ e. absurd (let a = names q ∙ ap (λ b. cond b None (name q)) e in cc)
        | false ↦ λ e.
            let on = t.forth q n (sym (names q ∙ ap (λ b. cond b None (name q)) e) ∙ h) in
            (elim (same_endpoint n0 n) as (λ b. same_endpoint n0 n ≡ b → Owner q n) [
              | true ↦ λ s.
                  let first = t.forth k0 n0 has in
                  let here : key n ≡ Some first.0 =
                  subst (λ m. key m ≡ Some first.0) (same_endpoint_is n0 n s) first.1 in
                  let is : first.0 ≡ on.0 = (let a = on.1 in cc) in
                  let equal : eq k0 q ≡ true =
                  laws.congr k0 first.0 q first.2 ∙ (ap (λ x. eq x q) is ∙ (laws.symm on.0 q ∙ on.2)) in
                  absurd cc
              | false ↦ λ s. (on.0, keys n ∙ (ap (λ b. cond b None (key n)) s ∙ on.1), on.2)
            ]) refl
      ]) refl

      back : (n : Endpoint) (k : K) → key' n ≡ Some k → name' k ≡ Some n
      back n k h =
          let was = kept n k h in
          let on = t.back n k was.1 in
          (elim (eq k0 k) as (λ b. eq k0 k ≡ b → name' k ≡ Some n) [
            | true ↦ λ e.
                let is : n0 ≡ n = (let a = alike k0 k e in cc) in
                let same = subst (λ m. same_endpoint n0 m ≡ true) is (same_endpoint_self n0) in
                absurd (let f = was.0 in cc)
            | false ↦ λ e. names k ∙ (ap (λ b. cond b None (name k)) e ∙ on)
          ]) refl

      known : (n : Endpoint) (k : K) → key' n ≡ Some k → number_of n < given
      known n k h = t.known n k (kept n k h).1

      made : (n : Endpoint) (k : K) → key' n ≡ Some k → numbered (number_of n) ≡ n
      made n k h = t.made n k (kept n k h).1
