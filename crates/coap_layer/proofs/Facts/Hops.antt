-- Two layers' traces, entry by entry.
use Rattle.std.proofs.Common.{◌≡◌, inl, inr, List, [], ◌∷◌, ◌++◌, refl, ap, sym, ◌∙◌, subst}
use Rattle.coap_types.specs.Past.{Ever}
use Rattle.coap_types.proofs.Facts.Traces.{Ever_back}
use Rattle.coap_layer.specs.Trace.{Entry}
use Rattle.coap_layer.specs.Channel.{Hop, Near, Far, near_of, far_of, OnNear, OnFar}

pub near_ever : (P : Entry → Type 0) (all : List Hop) → Ever (OnNear P) all → Ever P (near_of all)
near_ever P [] h = h
near_ever P (Near e ∷ past) (inl h) = inl h
near_ever P (Near e ∷ past) (inr h) = inr (near_ever P past h)
near_ever P (Far e ∷ past) (inl h) = absurd h
near_ever P (Far e ∷ past) (inr h) = near_ever P past h

pub far_ever : (P : Entry → Type 0) (all : List Hop) → Ever (OnFar P) all → Ever P (far_of all)
far_ever P [] h = h
far_ever P (Far e ∷ past) (inl h) = inl h
far_ever P (Far e ∷ past) (inr h) = inr (far_ever P past h)
far_ever P (Near e ∷ past) (inl h) = absurd h
far_ever P (Near e ∷ past) (inr h) = far_ever P past h

pub to_far : (P : Entry → Type 0) (all : List Hop) → Ever P (far_of all) → Ever (OnFar P) all
to_far P [] h = h
to_far P (Far e ∷ past) (inl h) = inl h
to_far P (Far e ∷ past) (inr h) = inr (to_far P past h)
to_far P (Near e ∷ past) h = inr (to_far P past h)

pub near_more : (s t : List Hop) → near_of (s ++ t) ≡ near_of s ++ near_of t
near_more [] t = refl
near_more (Near e ∷ s) t = ap (λ (l : List Entry). e ∷ l) (near_more s t)
near_more (Far e ∷ s) t = near_more s t

-- what happened near by, seen from later
pub near_later : (P : Entry → Type 0) (whole later r : List Hop) → whole ≡ later ++ r → Ever P (near_of r)
    → Ever P (near_of whole)
near_later P whole later r is h = subst (Ever P) (sym (ap near_of is ∙ near_more later r))
    (Ever_back P (near_of later) (near_of r) h)
