-- Lists of hops, and what happened at some entry.
use Rattle.std.proofs.Common.{◌≡◌, ◌⊎◌, inl, inr, ⊎_elim, List, [], ◌∷◌, ◌++◌, map, refl, ap}
use Rattle.coap_types.specs.Past.{Ever, Sometime}
use Rattle.coap_layer.specs.Channel.{Hop, Near, Far, near_of}
use Rattle.coap_layer.specs.Trace.{Entry}

pub near_near : (xs : List Entry) (hs : List Hop) → near_of (map Near xs ++ hs) ≡ xs ++ near_of hs
near_near [] hs = refl
near_near (x ∷ xs) hs = ap (λ t. x ∷ t) (near_near xs hs)

pub near_far : (xs : List Entry) (hs : List Hop) → near_of (map Far xs ++ hs) ≡ near_of hs
near_far [] hs = refl
near_far (x ∷ xs) hs = near_far xs hs

-- it happened in the later part, or in the earlier one
pub Sometime_append : {E : Type 0} (P : List E → E → Type 0) (s t : List E) → Sometime P (s ++ t)
    → Sometime (λ p e. P (p ++ t) e) s ⊎ Sometime P t
Sometime_append P [] t h = inr h
Sometime_append P (e ∷ s) t (inl h) = inl (inl h)
Sometime_append P (e ∷ s) t (inr h) = ⊎_elim (λ k. inl (inr k)) (λ k. inr k) (Sometime_append P s t h)

-- from an entry of a trace, what is found of it
pub some_of : {E : Type 0} (X : Type 0) (P : E → Type 0) → ((e : E) → P e → X) → (t : List E) → Ever P t → X
some_of X P f [] h = absurd h
some_of X P f (e ∷ t) (inl h) = f e h
some_of X P f (e ∷ t) (inr h) = some_of X P f t h
