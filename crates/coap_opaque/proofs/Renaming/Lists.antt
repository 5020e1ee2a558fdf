-- What is found in a list of renamed things is what was found in the list, renamed.
use Rattle.std.proofs.Common.{◌≡◌, ◌||◌, Bool, true, false, Option, Some, None, List, [], ◌∷◌, cond, filter, find}
use Rattle.std.proofs.Common.{filter_map, map, option_map, option_to_list, refl, ap, ◌∙◌, slice_get}
use Rattle.std.specs.List.{cons_option, list_any}

module _ {X Y : Type 0} (f : X → Y) where
  pub any_same : (p : X → Bool) (q : Y → Bool) → ((x : X) → q (f x) ≡ p x) → (xs : List X)
      → list_any q (map f xs) ≡ list_any p xs
  any_same p q h [] = refl
  any_same p q h (x ∷ xs) =
      ap (λ b. b || list_any q (map f xs)) (h x) ∙ ap (λ b. p x || b) (any_same p q h xs)

  pub filter_same : (p : X → Bool) (q : Y → Bool) → ((x : X) → q (f x) ≡ p x) → (xs : List X)
      → filter q (map f xs) ≡ map f (filter p xs)
  filter_same p q h [] = refl
  filter_same p q h (x ∷ xs) =
      ap (λ b. cond b (f x ∷ filter q (map f xs)) (filter q (map f xs))) (h x) ∙ by (p x) (filter_same p q h xs)
    where
      by : (b : Bool) → filter q (map f xs) ≡ map f (filter p xs)
          → cond b (f x ∷ filter q (map f xs)) (filter q (map f xs)) ≡ map f (cond b (x ∷ filter p xs) (filter p xs))
      by true k = ap (λ ys. f x ∷ ys) k
      by false k = k

  pub find_same : (p : X → Bool) (q : Y → Bool) → ((x : X) → q (f x) ≡ p x) → (xs : List X)
      → find q (map f xs) ≡ option_map f (find p xs)
  find_same p q h [] = refl
  find_same p q h (x ∷ xs) =
      ap (λ b. cond b (Some (f x)) (find q (map f xs))) (h x) ∙ by (p x) (find_same p q h xs)
    where
      by : (b : Bool) → find q (map f xs) ≡ option_map f (find p xs)
          → cond b (Some (f x)) (find q (map f xs)) ≡ option_map f (cond b (Some x) (find p xs))
      by true k = refl
      by false k = k

  pub first_same : (xs : List X) → slice_get (map f xs) 0 ≡ option_map f (slice_get xs 0)
  first_same [] = refl
  first_same (x ∷ xs) = refl

  pub one_same : (o : Option X) → option_to_list (option_map f o) ≡ map f (option_to_list o)
  one_same None = refl
  one_same (Some x) = refl

  -- what is done to each
  pub each_same : (g : X → X) (h : Y → Y) → ((x : X) → h (f x) ≡ f (g x)) → (xs : List X)
      → map h (map f xs) ≡ map f (map g xs)
  each_same g h e [] = refl
  each_same g h e (x ∷ xs) = ap (λ y. y ∷ map h (map f xs)) (e x) ∙ ap (λ ys. f (g x) ∷ ys) (each_same g h e xs)

  -- .. and to each that is left
  pub left_same : (g : X → Option X) (h : Y → Option Y) → ((x : X) → h (f x) ≡ option_map f (g x)) → (xs : List X)
      → filter_map h (map f xs) ≡ map f (filter_map g xs)
  left_same g h e [] = refl
  left_same g h e (x ∷ xs) =
      ap (λ o. cons_option o (filter_map h (map f xs))) (e x) ∙ by (g x) (left_same g h e xs)
    where
      by : (o : Option X) → filter_map h (map f xs) ≡ map f (filter_map g xs)
          → cons_option (option_map f o) (filter_map h (map f xs)) ≡ map f (cons_option o (filter_map g xs))
      by None k = k
      by (Some y) k = ap (λ ys. f y ∷ ys) k

-- equal lists have equal parts
pub parts_of : {X : Type 0} (x y : X) (xs ys : List X) → x ∷ xs ≡ y ∷ ys → (x ≡ y) × (xs ≡ ys)
parts_of x y xs ys e = (cc e, cc e)
