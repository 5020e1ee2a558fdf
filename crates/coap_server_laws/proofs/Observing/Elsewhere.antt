-- What is left of a registration where a peer is forgotten: all of it, or it is of that peer and gone.
use Rattle.std.proofs.Common.{◌≡◌, ◌⊎◌, inl, inr, ℕ, Bool, true, false, None, List, refl, subst}
use Rattle.coap_types.specs.SameEndpoint.{same_endpoint}
use Rattle.coap_types.specs.declared.endpoint.Endpoint.{Endpoint}
use Rattle.coap_types.proofs.Facts.Endpoints.{same_endpoint-decides}
use Rattle.coap_observe.specs.Observers.{Observer, elsewhere, registration}
use Rattle.coap_observe.proofs.Facts.Registrations.{forget_leaves, forget_takes}

pub elsewhere_either : (peer to : Endpoint) (token : List ℕ) (os : List Observer)
    → (registration to token (elsewhere peer os) ≡ registration to token os)
    ⊎ ((peer ≡ to) × (registration to token (elsewhere peer os) ≡ None))
elsewhere_either peer to token os = by (same_endpoint peer to) refl
  where
    by : (b : Bool) → same_endpoint peer to ≡ b
        → (registration to token (elsewhere peer os) ≡ registration to token os)
        ⊎ ((peer ≡ to) × (registration to token (elsewhere peer os) ≡ None))
    by true is =
        let same : peer ≡ to = (same_endpoint-decides peer to).0 is in
        inr (same, subst (λ p. registration p token (elsewhere peer os) ≡ None) same (forget_takes peer token os))
    by false is = inl (forget_leaves peer to token os
        (λ e. let yes = (same_endpoint-decides peer to).1 e in cc (yes, is)))
