-- The same hops, with the other layer as the near one.
use Rattle.std.proofs.Common.{◌≡◌, inl, inr, List, [], ◌∷◌, refl, ap}
use Rattle.coap_types.specs.Past.{Ever}
use Rattle.coap_layer.specs.Channel.{Hop, Near, Far, near_of, far_of, OnNear, OnFar}
use Rattle.coap_layer.specs.Trace.{Entry}
use Rattle.coap_promise.specs.Hops.{across}

pub near_across : (hs : List Hop) → near_of (across hs) ≡ far_of hs
near_across [] = refl
near_across (Near e ∷ hs) = near_across hs
near_across (Far e ∷ hs) = ap (λ t. e ∷ t) (near_across hs)

pub far_across : (hs : List Hop) → far_of (across hs) ≡ near_of hs
far_across [] = refl
far_across (Near e ∷ hs) = ap (λ t. e ∷ t) (far_across hs)
far_across (Far e ∷ hs) = far_across hs

pub near_there : (P : Entry → Type 0) (hs : List Hop) → Ever (OnNear P) hs → Ever (OnFar P) (across hs)
near_there P [] h = h
near_there P (Near e ∷ hs) (inl h) = inl h
near_there P (Near e ∷ hs) (inr h) = inr (near_there P hs h)
near_there P (Far e ∷ hs) (inl h) = absurd h
near_there P (Far e ∷ hs) (inr h) = inr (near_there P hs h)

pub far_there : (P : Entry → Type 0) (hs : List Hop) → Ever (OnFar P) hs → Ever (OnNear P) (across hs)
far_there P [] h = h
far_there P (Far e ∷ hs) (inl h) = inl h
far_there P (Far e ∷ hs) (inr h) = inr (far_there P hs h)
far_there P (Near e ∷ hs) (inl h) = absurd h
far_there P (Near e ∷ hs) (inr h) = inr (far_there P hs h)
