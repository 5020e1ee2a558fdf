-- Lists: what holds of each member of the front.
use Rattle.std.proofs.Common.{inl, inr, List, [], ◌∷◌, ◌++◌, refl, subst}
use Rattle.coap_types.specs.Past.{Always}
use Rattle.coap_layer.specs.Sends.{IsIn}

-- each of a list
abbrev pub Every : {X : Type 0} → (X → Type 0) → List X → Type 0
Every P xs = Always (λ past x. P x) xs

module _ {E : Type 0} where
  pub every_join : (P : E → Type 0) (xs ys : List E) → Every P xs → Every P ys → Every P (xs ++ ys)
  every_join P [] ys h k = k
  every_join P (x ∷ xs) ys h k = (h.0, every_join P xs ys h.1 k)

  pub every_in : (P : E → Type 0) (xs : List E) (e : E) → Every P xs → IsIn e xs → P e
  every_in P (x ∷ xs) e h (inl i) = subst P i h.0
  every_in P (x ∷ xs) e h (inr i) = every_in P xs e h.1 i
  every_in P [] e h i = absurd i

  pub always_front : (P : List E → E → Type 0) (xs rest : List E) → ((p : List E) (e : E) → IsIn e xs → P p e)
      → Always P rest → Always P (xs ++ rest)
  always_front P [] rest f h = h
  always_front P (x ∷ xs) rest f h = (f (xs ++ rest) x (inl refl), always_front P xs rest (λ p e i. f p e (inr i)) h)

  pub always_map : (P Q : List E → E → Type 0) → ((p : List E) (e : E) → P p e → Q p e) → (t : List E) → Always P t
      → Always Q t
  always_map P Q f [] h = tt
  always_map P Q f (e ∷ t) h = (f t e h.0, always_map P Q f t h.1)
