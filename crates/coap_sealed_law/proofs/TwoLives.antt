-- Two lives follow the rules.
use Rattle.std.proofs.Common.{◌≡◌, inl, inr, ℕ, ◌<◌, List, [], ◌∷◌, refl, sym}
use Rattle.coap_types.specs.Past.{Ever}
use Rattle.coap_sealed_law.specs.Sealing.{Own, OfRequest, Begins, Opens, Seals, IsOpened}
use Rattle.coap_sealed_law.specs.Sealing.{IsSealed, Follows, first_life, two_lives, first_head}

-- the second request never came
never : Ever (IsOpened 1) (Begins ∷ first_life) → ⊥
never (inl h) = absurd h
never (inr (inl h)) = absurd h
never (inr (inr (inl h))) = absurd (cc h)
never (inr (inr (inr (inl h)))) = absurd h
never (inr (inr (inr (inr (inl h))))) = absurd (cc h)
never (inr (inr (inr (inr (inr (inl h)))))) = absurd h
never (inr (inr (inr (inr (inr (inr h)))))) = absurd h

-- no own number was used
below : (n : ℕ) (text : List ℕ) → Ever (IsSealed (Own n) text) (Opens 1 first_head ∷ Begins ∷ first_life) → n < 1000
below n text (inl h) = absurd h
below n text (inr (inl h)) = absurd h
below n text (inr (inr (inl h))) = absurd (cc h.0)
below n text (inr (inr (inr (inl h)))) = absurd h
below n text (inr (inr (inr (inr (inl h))))) = absurd (cc h.0)
below n text (inr (inr (inr (inr (inr (inl h)))))) = absurd h
below n text (inr (inr (inr (inr (inr (inr (inl h))))))) = absurd h
below n text (inr (inr (inr (inr (inr (inr (inr h))))))) = absurd h

alone : (other : List ℕ) → Ever (IsSealed (OfRequest 0) other) (Opens 0 first_head ∷ []) → other ≡ (1 ∷ [])
alone other (inl h) = absurd h
alone other (inr h) = absurd h

same : (other : List ℕ) → Ever (IsSealed (OfRequest 0) other)
    (Opens 0 first_head ∷ Seals (OfRequest 0) (1 ∷ []) ∷ Opens 0 first_head ∷ []) → other ≡ (1 ∷ [])
same other (inl h) = absurd h
same other (inr (inl h)) = sym h.1
same other (inr (inr (inl h))) = absurd h
same other (inr (inr (inr h))) = absurd h

nothing : Ever (IsOpened 0) (Begins ∷ []) → ⊥
nothing (inl h) = absurd h
nothing (inr h) = absurd h

pub two_lives_follow : Follows two_lives
two_lives_follow = (
  inl below,
  (
    inl never,
    (
      tt,
      ((inl refl, same), (inr (inr (inl (refl, refl))), ((inl refl, alone), (inl nothing, (tt, tt))))),
    ),
  ),
)
