-- Tests over lists.
use Rattle.std.proofs.Common.{◌≡◌, inl, inr, ℕ, ◌+◌, ◌<◌, ◌≤◌, ◌==◌, nat_le, nat_lt, Bool, true, false, Option, Some}
use Rattle.std.proofs.Common.{List, [], ◌∷◌, ◌++◌, length, filter, map, refl, ap, arith, ◌&&◌, ◌||◌, cond}
use Rattle.std.proofs.lemmas.Bool.Decides.{nat_tests}
use Rattle.std.specs.List.{list_any, filter_map}
use Rattle.coap_types.specs.Past.{Ever}

pub le_true : (a b : ℕ) → nat_le a b ≡ true → a ≤ b
le_true a b h = grind (arith, nat_tests)

pub true_le : (a b : ℕ) → a ≤ b → nat_le a b ≡ true
true_le a b h = grind (arith, nat_tests)

pub lt_true : (a b : ℕ) → nat_lt a b ≡ true → a < b
lt_true a b h = grind (arith, nat_tests)

pub true_lt : (a b : ℕ) → a < b → nat_lt a b ≡ true
true_lt a b h = grind (arith, nat_tests)

pub same_nat : (a b : ℕ) → (a == b) ≡ true → a ≡ b
same_nat a b h = grind (arith, nat_tests)

pub and_left : (b c : Bool) → (b && c) ≡ true → b ≡ true
and_left true c h = refl
and_left false c h = h

pub and_right : (b c : Bool) → (b && c) ≡ true → c ≡ true
and_right true c h = h
and_right false c h = absurd (cc h)

pub both : (b c : Bool) → b ≡ true → c ≡ true → (b && c) ≡ true
both b c h k = cc (h, k)

pub not_true : (b : Bool) → (b ≡ true → ⊥) → b ≡ false
not_true true f = absurd (f refl)
not_true false f = refl

pub or_swap : (a b c : Bool) → ((a || b) || c) ≡ ((a || c) || b)
or_swap true b c = refl
or_swap false true true = refl
or_swap false true false = refl
or_swap false false true = refl
or_swap false false false = refl

pub or_comm : (a b : Bool) → (a || b) ≡ (b || a)
or_comm true true = refl
or_comm true false = refl
or_comm false true = refl
or_comm false false = refl

-- what passes q passes p
module _ {A : Type 0} (p q : A → Bool) (implied : (x : A) → q x ≡ true → p x ≡ true) where
  filter_step : (x : A) (xs ys : List A) (b c : Bool) → p x ≡ b → q x ≡ c → filter q xs ≡ filter q ys
      → filter q (cond b (x ∷ xs) xs) ≡ cond c (x ∷ filter q ys) (filter q ys)
  filter_step x xs ys true true hp hq e = rw hq (ap (λ zs. x ∷ zs) e)
  filter_step x xs ys true false hp hq e = rw hq e
  filter_step x xs ys false true hp hq e = absurd (cc (hp, implied x hq))
  filter_step x xs ys false false hp hq e = e

  pub filter_implied : (xs : List A) → filter q (filter p xs) ≡ filter q xs
  filter_implied [] = refl
  filter_implied (x ∷ xs) = filter_step x (filter p xs) xs (p x) (q x) refl refl (filter_implied xs)

  any_step : (x : A) (xs : List A) (b : Bool) (c d : Bool) → p x ≡ b → q x ≡ c → list_any q xs ≡ d
      → list_any q (cond b (x ∷ xs) xs) ≡ (c || d)
  any_step x xs true c d hp hq e = cc
  any_step x xs false true d hp hq e = absurd (cc (hp, implied x hq))
  any_step x xs false false d hp hq e = e

  pub any_implied : (xs : List A) → list_any q (filter p xs) ≡ list_any q xs
  any_implied [] = refl
  any_implied (x ∷ xs) = any_step x (filter p xs) (p x) (q x) (list_any q xs) refl refl (any_implied xs)

module _ {A : Type 0} (p : A → Bool) where
  pub any_append : (xs ys : List A) → list_any p (xs ++ ys) ≡ (list_any p xs || list_any p ys)
  any_append [] ys = refl
  any_append (x ∷ xs) ys = any_append_step (p x) (list_any p xs) (list_any p ys) (list_any p (xs ++ ys))
      (any_append xs ys)
    where
      any_append_step : (b c d f : Bool) → f ≡ (c || d) → (b || f) ≡ ((b || c) || d)
      any_append_step true c d f h = refl
      any_append_step false c d f h = h

  pub filter_more : (xs ys : List A) → filter p (xs ++ ys) ≡ filter p xs ++ filter p ys
  filter_more [] ys = refl
  filter_more (x ∷ xs) ys = go (p x) (filter_more xs ys)
    where
      go : (b : Bool) → filter p (xs ++ ys) ≡ filter p xs ++ filter p ys
          → cond b (x ∷ filter p (xs ++ ys)) (filter p (xs ++ ys)) ≡ cond b (x ∷ filter p xs) (filter p xs)
          ++ filter p ys
      go true h = ap (λ zs. x ∷ zs) h
      go false h = h

  -- a change that the test doesn't see
  module _ (f : A → A) (same : (x : A) → p (f x) ≡ p x) where
    pub any_changed : (xs : List A) → list_any p (map f xs) ≡ list_any p xs
    any_changed [] = refl
    any_changed (x ∷ xs) = let h = same x in let k = any_changed xs in cc (h, k)

    pub filter_changed : (xs : List A) → filter p (map f xs) ≡ map f (filter p xs)
    filter_changed [] = refl
    filter_changed (x ∷ xs) = go (p x) (p (f x)) refl (same x) (filter_changed xs)
      where
        go : (b c : Bool) → p x ≡ b → c ≡ p x → filter p (map f xs) ≡ map f (filter p xs)
            → cond c (f x ∷ filter p (map f xs)) (filter p (map f xs)) ≡ map f (cond b (x ∷ filter p xs) (filter p xs))
        go true true h k e = ap (λ zs. f x ∷ zs) e
        go false false h k e = e
        go true false h k e = absurd (cc (h, k))
        go false true h k e = absurd (cc (h, k))

  -- the test and what it says
  module _ (P : A → Type 0) where
    pub any_ever : ((x : A) → p x ≡ true → P x) → (xs : List A) → list_any p xs ≡ true → Ever P xs
    any_ever to [] h = absurd (cc h)
    any_ever to (x ∷ xs) h = go (p x) refl h (any_ever to xs)
      where
        go : (b : Bool) → p x ≡ b → (b || list_any p xs) ≡ true → (list_any p xs ≡ true → Ever P xs) → Ever P (x ∷ xs)
        go true e k f = inl (to x e)
        go false e k f = inr (f k)

    pub ever_any : ((x : A) → P x → p x ≡ true) → (xs : List A) → Ever P xs → list_any p xs ≡ true
    ever_any from [] h = absurd h
    ever_any from (x ∷ xs) (inl h) = let k = from x h in cc k
    ever_any from (x ∷ xs) (inr h) = let k = ever_any from xs h in go (p x) k
      where
        go : (b : Bool) → list_any p xs ≡ true → (b || list_any p xs) ≡ true
        go true k = refl
        go false k = k

pub length_map : {A B : Type 0} (f : A → B) (xs : List A) → length (map f xs) ≡ length xs
length_map f [] = refl
length_map f (x ∷ xs) = let h = length_map f xs in cc h

pub length_append : {A : Type 0} (xs ys : List A) → length (xs ++ ys) ≡ length xs + length ys
length_append {A = A} [] ys = omega arith
length_append {A = A} (x ∷ xs) ys = let h = length_append xs ys in omega (arith, h)

pub map_same : {A : Type 0} (f : A → A) → ((x : A) → f x ≡ x) → (xs : List A) → map f xs ≡ xs
map_same f same [] = refl
map_same f same (x ∷ xs) = let h = same x in let k = map_same f same xs in cc (h, k)

pub filter_map_same : {A B : Type 0} (f g : A → Option B) → ((x : A) → f x ≡ g x) → (xs : List A)
    → filter_map f xs ≡ filter_map g xs
filter_map_same f g same [] = refl
filter_map_same f g same (x ∷ xs) = let h = same x in let k = filter_map_same f g same xs in cc (h, k)

pub filter_map_all : {A : Type 0} (xs : List A) → filter_map (λ (x : A). Some x) xs ≡ xs
filter_map_all [] = refl
filter_map_all (x ∷ xs) = ap (λ ys. x ∷ ys) (filter_map_all xs)
