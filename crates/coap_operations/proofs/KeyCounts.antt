-- How often a key stands in a list.
use Rattle.std.proofs.Common.{◌≡◌, ◌≤◌, ℕ, suc, ◌+◌, Bool, true, false, cond, not, Some, List, []}
use Rattle.std.proofs.Common.{◌∷◌, ◌++◌}
use Rattle.std.proofs.Common.{filter, zero, slice_get, remove, refl, ap}
use Rattle.std.proofs.Common.{◌∙◌, arith}
use Rattle.std.specs.Prelude.{◌==◌}
use Rattle.std.proofs.lemmas.Bool.{eq-eqb, ne_eqb}
use Rattle.coap_operations.specs.declared.queued.Queued.{Queued}
use Rattle.coap_operations.specs.declared.queued.Queued.TheVariants.{Starts, Cancels}
use Rattle.coap_operations.specs.Keys.{hit, in_live, in_queue, is_cancel_key}

pub hit_same : (k : ℕ) → hit k k ≡ 1
hit_same k = ap (λ b. cond b 1 0) (eq-eqb k k refl)

pub hit_other : (j k : ℕ) → (j ≡ k → ⊥) → hit j k ≡ 0
hit_other j k h = ap (λ b. cond b 1 0) (ne_eqb j k h)

pub apart : (j k rest : ℕ) → hit j k + rest ≡ 0 → j ≡ k → ⊥
apart j k rest h e = let a : hit j k ≡ 1 = ap (λ x. hit x k) e ∙ hit_same k in omega (arith, a, h)

pub in_queue_append : (k : ℕ) (q p : List (Queued ℕ)) → in_queue k (q ++ p) ≡ in_queue k q + in_queue k p
in_queue_append k [] p = omega arith
in_queue_append k (Starts key ∷ q) p = let a = in_queue_append k q p in omega (arith, a)
in_queue_append k (Cancels n ∷ q) p = in_queue_append k q p

pub in_live_append : (k : ℕ) (l m : List ℕ) → in_live k (l ++ m) ≡ in_live k l + in_live k m
in_live_append k [] m = omega arith
in_live_append k (key ∷ l) m = let a = in_live_append k l m in omega (arith, a)

pub in_queue_kept : (k n : ℕ) (q : List (Queued ℕ))
    → in_queue k (filter (λ x. not (is_cancel_key n x)) q) ≡ in_queue k q
in_queue_kept k n [] = refl
in_queue_kept k n (Starts key ∷ q) = ap (λ m. hit key k + m) (in_queue_kept k n q)
in_queue_kept k n (Cancels j ∷ q) = by (j == n) (in_queue_kept k n q)
  where
    by : (b : Bool) → in_queue k (filter (λ x. not (is_cancel_key n x)) q) ≡ in_queue k q
        → in_queue k (cond (not b) (Cancels j ∷ filter (λ x. not (is_cancel_key n x)) q)
        (filter (λ x. not (is_cancel_key n x)) q)) ≡ in_queue k q
    by true h = h
    by false h = h

-- a key that is found is there

pub found_in : (l : List ℕ) (p key : ℕ) → slice_get l p ≡ Some key → 1 ≤ in_live key l
found_in [] p key h = absurd (cc h)
found_in (j ∷ l) zero key h = let is : j ≡ key = cc h in let a : hit j key ≡ 1 =
    ap (λ x. hit x key) is ∙ hit_same key in omega (arith, a)
found_in (j ∷ l) (suc p) key h = let a = found_in l p key h in omega (arith, a)

pub in_live_without : (k key : ℕ) (l : List ℕ) (p : ℕ) → slice_get l p ≡ Some key
    → in_live k (remove l p) + hit key k ≡ in_live k l
in_live_without k key [] p h = absurd (cc h)
in_live_without k key (j ∷ l) zero h = let is : j ≡ key = cc h in let a : hit j k ≡ hit key k = ap (λ x. hit x k) is in
    omega (arith, a)
in_live_without k key (j ∷ l) (suc p) h = let a = in_live_without k key l p h in omega (arith, a)
