-- What holds of each element of a list.
use Rattle.std.proofs.Common.{Bool, true, false, List, [], ◌∷◌, ◌++◌, filter, map, cond}
use Rattle.coap_block.specs.Whole.{Each}

module _ {X : Type 0} (P : X → Type 0) where
  pub each_join : (xs ys : List X) → Each P xs → Each P ys → Each P (xs ++ ys)
  each_join [] ys h k = k
  each_join (x ∷ xs) ys h k = (h.0, each_join xs ys h.1 k)

  pub each_with : (xs : List X) (x : X) → Each P xs → P x → Each P (xs ++ x ∷ [])
  each_with xs x h k = each_join xs (x ∷ []) h (k, tt)

  pub each_kept : (p : X → Bool) (xs : List X) → Each P xs → Each P (filter p xs)
  each_kept p [] h = tt
  each_kept p (x ∷ xs) h = by (p x) (each_kept p xs h.1)
    where
      by : (b : Bool) → Each P (filter p xs) → Each P (cond b (x ∷ filter p xs) (filter p xs))
      by true k = (h.0, k)
      by false k = k

  pub each_map : (f : X → X) → ((x : X) → P x → P (f x)) → (xs : List X) → Each P xs → Each P (map f xs)
  each_map f g [] h = tt
  each_map f g (x ∷ xs) h = (g x h.0, each_map f g xs h.1)
