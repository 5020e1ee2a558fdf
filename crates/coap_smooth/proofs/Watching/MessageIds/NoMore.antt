-- Numbers that differ, each of which is in a list, are no more than that has.
use Rattle.std.proofs.Common.{◌≡◌, inl, inr, ℕ, ◌+◌, ◌≤◌, List, [], ◌∷◌, length, refl, sym, subst, ◌∙◌, arith}
use Rattle.coap_types.specs.Past.{Always}
use Rattle.coap_layer.specs.Sends.{IsIn}

abbrev pub Differ : List ℕ → Type 0
Differ xs = Always (λ past x. IsIn x past → ⊥) xs

-- the list without that place
abbrev left : (x : ℕ) (ys : List ℕ) → IsIn x ys → List ℕ
left x [] h = []
left x (y ∷ ys) (inl is) = ys
left x (y ∷ ys) (inr h) = y ∷ left x ys h

left_long : (x : ℕ) (ys : List ℕ) (h : IsIn x ys) → length ys ≡ 1 + length (left x ys h)
left_long x [] h = absurd h
left_long x (y ∷ ys) (inl is) = omega arith
left_long x (y ∷ ys) (inr h) = let k = left_long x ys h in omega (arith, k)

-- what isn't taken away stays
left_in : (x z : ℕ) (ys : List ℕ) (h : IsIn x ys) → (z ≡ x → ⊥) → IsIn z ys → IsIn z (left x ys h)
left_in x z [] h other k = absurd h
left_in x z (y ∷ ys) (inl is) other (inl k) = absurd (other (sym k ∙ is))
left_in x z (y ∷ ys) (inl is) other (inr k) = k
left_in x z (y ∷ ys) (inr h) other (inl k) = inl k
left_in x z (y ∷ ys) (inr h) other (inr k) = inr (left_in x z ys h other k)

pub no_more : (xs ys : List ℕ) → Differ xs → ((x : ℕ) → IsIn x xs → IsIn x ys) → length xs ≤ length ys
no_more [] ys differ f = omega arith
no_more (x ∷ xs) ys differ f =
    let h : IsIn x ys = f x (inl refl) in
    let long = left_long x ys h in
    let rest = no_more xs (left x ys h) differ.1
    (λ z m. left_in x z ys h (λ is. differ.0 (subst (λ w. IsIn w xs) is m)) (f z (inr m))) in
    omega (arith, long, rest)
