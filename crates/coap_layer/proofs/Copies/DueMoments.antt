-- How many of the due moments of a CON's copies have passed.
use Rattle.std.proofs.Common.{◌≡◌, inl, inr, ℕ, ◌+◌, ◌*◌, ◌<◌, ◌≤◌, nat_le, Bool, true, false, List, [], ◌∷◌, length}
use Rattle.std.proofs.Common.{refl, arith, cond}
use Rattle.std.proofs.lemmas.Bool.Decides.{nat_tests}
use Rattle.coap_types.specs.Past.{Ever}
use Rattle.coap_types.specs.declared.transmission.TheConstants.{MAX_RETRANSMIT as max_retransmit}
use Rattle.coap_layer.specs.BackOff.{factors}

abbrev pub passed_one : ℕ → ℕ → ℕ
passed_one due gone = cond (nat_le due gone) 1 0

-- how many of these due moments have passed
abbrev passed_in : List ℕ → ℕ → ℕ → ℕ
passed_in [] timeout gone = 0
passed_in (k ∷ ks) timeout gone = passed_one (timeout * k) gone + passed_in ks timeout gone

abbrev pub passed : ℕ → ℕ → ℕ
passed = passed_in (factors max_retransmit)

one_more : (due x y : ℕ) → x ≤ y → passed_one due x ≤ passed_one due y
one_more due x y le = go (nat_le due x) (nat_le due y) refl refl
  where
    go : (b c : Bool) → nat_le due x ≡ b → nat_le due y ≡ c → cond b 1 0 ≤ cond c 1 0
    go true true h k = omega arith
    go false true h k = omega arith
    go false false h k = omega arith
    go true false h k = absurd (grind (arith, nat_tests, h, k, le))

one_passed : (due x y : ℕ) → x < due → due ≤ y → passed_one due x + 1 ≤ passed_one due y
one_passed due x y less le = go (nat_le due x) (nat_le due y) refl refl
  where
    go : (b c : Bool) → nat_le due x ≡ b → nat_le due y ≡ c → cond b 1 0 + 1 ≤ cond c 1 0
    go false true h k = omega arith
    go true c h k = absurd (grind (arith, nat_tests, h, less))
    go b false h k = absurd (grind (arith, nat_tests, k, le))

one_at_most : (due x : ℕ) → passed_one due x ≤ 1
one_at_most due x = go (nat_le due x)
  where
    go : (b : Bool) → cond b 1 0 ≤ 1
    go true = omega arith
    go false = omega arith

more_in : (ks : List ℕ) (t x y : ℕ) → x ≤ y → passed_in ks t x ≤ passed_in ks t y
more_in [] t x y le = omega arith
more_in (k ∷ ks) t x y le = let a = one_more (t * k) x y le in let b = more_in ks t x y le in omega (arith, a, b)

pub passed_more : (t x y : ℕ) → x ≤ y → passed t x ≤ passed t y
passed_more = more_in (factors max_retransmit)

at_most_in : (ks : List ℕ) (t x : ℕ) → passed_in ks t x ≤ length ks
at_most_in [] t x = omega arith
at_most_in (k ∷ ks) t x = let a = one_at_most (t * k) x in let b = at_most_in ks t x in omega (arith, a, b)

pub at_most_all : (t x : ℕ) → passed t x ≤ max_retransmit
at_most_all = at_most_in (factors max_retransmit)

due_in : (ks : List ℕ) (t x y : ℕ) → x ≤ y → Ever (λ (k : ℕ). (x < t * k) × (t * k ≤ y)) ks
    → passed_in ks t x + 1 ≤ passed_in ks t y
due_in [] t x y le h = absurd h
due_in (k ∷ ks) t x y le (inl h) = let a = one_passed (t * k) x y h.0 h.1 in let b =
    more_in ks t x y le in omega (arith, a, b)
due_in (k ∷ ks) t x y le (inr h) = let a = one_more (t * k) x y le in let b =
    due_in ks t x y le h in omega (arith, a, b)

pub due_passed : (t x y : ℕ) → x ≤ y → Ever (λ (k : ℕ). (x < t * k) × (t * k ≤ y)) (factors max_retransmit)
    → passed t x + 1 ≤ passed t y
due_passed = due_in (factors max_retransmit)
