-- How many numbers there are, and how many more behind one that is given.
use Rattle.std.proofs.Common.{◌≡◌, ◌≤◌, ℕ, ◌+◌, Bool, true, false, cond, not, ◌&&◌, ◌||◌, Some, None, List, [], ◌∷◌}
use Rattle.std.proofs.Common.{◌++◌, refl, ap, sym, ◌∙◌, arith, Ok, Err}
use Rattle.std.specs.Prelude.{◌==◌, nat_lt, option_to_list}
use Rattle.std.specs.List.{list_any}
use Rattle.std.proofs.lemmas.Bool.Decides.{nat_tests}
use Rattle.std.proofs.lemmas.Bool.{ltb-true}
use Rattle.coap_client.specs.declared.refusals.CallRefusal.{CallRefusal}
use Rattle.coap_client.specs.declared.refusals.CancelRefusal.TheVariants as cancel
use Rattle.coap_client.specs.Own.{Operation, Observation, Own}
use Rattle.coap_client.specs.Observations.{is_cancel_of, is_cancelled}
use Rattle.coap_client.specs.Places.{hit}
use Rattle.coap_client.proofs.Facts.Places.PlaceLemmas.{same_number, number_self}
use Rattle.coap_client.proofs.Facts.Places.PlaceEffects.{Waits, AllWait, NoCancel}

-- how many numbers there are
not_lt : (a b : ℕ) → nat_lt a b ≡ false → b ≤ a
not_lt a b h = grind (arith, nat_tests)

abbrev one_if : Bool → ℕ
one_if b = cond b 1 0

abbrev pub below : ℕ → ℕ → ℕ
below n m = cond (nat_lt n m) 1 0

pub below_zero : (n : ℕ) → below n 0 ≡ 0
below_zero n = by (nat_lt n 0) refl
  where
    by : (b : Bool) → nat_lt n 0 ≡ b → one_if b ≡ 0
    by true h = let k = ltb-true n 0 h in absurd (omega (arith, k))
    by false h = refl

pub below_next : (n m : ℕ) → cond (nat_lt n (m + 1)) 1 0 ≡ cond (nat_lt n m) 1 0 + hit m n
below_next n m = by (nat_lt n (m + 1)) refl (nat_lt n m) refl (m == n) refl
  where
    by : (b : Bool) → nat_lt n (m + 1) ≡ b → (c : Bool) → nat_lt n m ≡ c → (d : Bool) → (m == n) ≡ d
        → one_if b ≡ one_if c + one_if d
    by true h true k false e = omega arith
    by true h true k true e = let a = ltb-true n m k in let q = same_number m n e in absurd (omega (arith, a, q))
    by true h false k true e = omega arith
    by true h false k false e =
        let a = ltb-true n (m + 1) h in
        let q = not_lt n m k in
        let same : m ≡ n = omega (arith, a, q) in
        let t : (m == n) ≡ true = ap (λ i. m == i) (sym same) ∙ number_self m in
        absurd (cc (t, e))
    by false h true k d e = let a = not_lt n (m + 1) h in let q = ltb-true n m k in absurd (omega (arith, a, q))
    by false h false k true e = let a = not_lt n (m + 1) h in let q = same_number m n e in absurd (omega (arith, a, q))
    by false h false k false e = omega arith

pub at_most_one : (a b : ℕ) (c : Bool) → a + b ≡ cond c 1 0 → a ≤ 1
at_most_one a b true h = omega (arith, h)
at_most_one a b false h = omega (arith, h)

pub both_one : (a b : ℕ) (c : Bool) → a + b ≡ cond c 1 0 → 1 ≤ a → 1 ≤ b → ⊥
both_one a b true h p q = absurd (omega (arith, h, p, q))
both_one a b false h p q = absurd (omega (arith, h, p, q))

-- a number that is given
pub given_is : (a b c d : Bool) (e f g i : CallRefusal) (k taken : ℕ)
    → Ok k ≡ cond a (Err e) (cond b (Err f) (cond c (Err g) (cond d (Err i) (Ok taken)))) → k ≡ taken
given_is false false false false e f g i k taken h = cc h
given_is _ _ _ _ e f g i k taken h = absurd (cc h)

pub live_if : (live cancelled full : Bool) → None
    ≡ cond (not live || cancelled) (Some cancel.Unknown) (cond full (Some cancel.QueueFull) None) → live ≡ true
live_if true cancelled full h = refl
live_if false cancelled full h = absurd (cc h)

pub and_both : (a b : Bool) → true ≡ (a && b) → (a ≡ true) × (b ≡ true)
and_both true b h = (refl, sym h)
and_both false b h = absurd (cc h)

pub wait_behind : (os : List Observation) (q : List Operation) (op : Operation) → AllWait os q → Waits os op
    → AllWait os (q ++ op ∷ [])
wait_behind os [] op h w = (w, tt)
wait_behind os (x ∷ q) op h w = (h.0, wait_behind os q op h.1 w)

-- no cancel runs where none is there
pub no_cancel : (s : Own) (k : ℕ) → not (is_cancelled k s) ≡ true → NoCancel k s.running
no_cancel s k h j is = by (j == k) (ap (λ r. not (list_any (is_cancel_of k) (option_to_list r ++ s.queue))) (sym is)
    ∙ h)
  where
    by : (b : Bool) → not (b || list_any (is_cancel_of k) s.queue) ≡ true → b ≡ false
    by true e = absurd (cc e)
    by false e = refl
