-- Whether a CON to an endpoint is outstanding, and what calls of the server add to the trace of its message layer.
use Rattle.std.proofs.Common.{◌≡◌, ◌⊎◌, inl, inr, ⊎_elim, Bool, true, false, List, [], ◌∷◌, ◌++◌, refl, ap, sym, ◌∙◌}
use Rattle.std.proofs.Common.{append_assoc}
use Rattle.coap_types.specs.Past.{Ever}
use Rattle.coap_types.proofs.Facts.Endpoints.{same_endpoint_is}
use Rattle.coap_types.specs.SameEndpoint.{same_endpoint}
use Rattle.coap_types.specs.declared.endpoint.Endpoint.{Endpoint}
use Rattle.coap_layer.specs.Rows.{Busy}
use Rattle.coap_layer.specs.Sends.{as_begun, IsOpen}
use Rattle.coap_layer.specs.Trace as L
use Rattle.coap_layer.specs.Words.{Open, outstanding}
use Rattle.coap_server.specs.Trace as S
use Rattle.coap_record.specs.Events.{Config}
use Rattle.coap_promise.specs.Hops.{server_adds}
use Rattle.coap_promise.proofs.Facts.Delivery.HopsAreEntries.{server_layer, server_next}

-- a CON to there is outstanding, or none is
pub busy_or_not : (to : Endpoint) (cs : List Open) → Ever (λ (c : Open). same_endpoint c.to to ≡ true) cs
    ⊎ (Ever (λ (c : Open). same_endpoint c.to to ≡ true) cs → ⊥)
busy_or_not to [] = inr (λ h. h)
busy_or_not to (c ∷ cs) = by (same_endpoint c.to to) refl (busy_or_not to cs)
  where
    by : (b : Bool) → same_endpoint c.to to ≡ b
        → Ever (λ (y : Open). same_endpoint y.to to ≡ true) cs
        ⊎ (Ever (λ (y : Open). same_endpoint y.to to ≡ true) cs → ⊥)
        → Ever (λ (y : Open). same_endpoint y.to to ≡ true) (c ∷ cs)
        ⊎ (Ever (λ (y : Open). same_endpoint y.to to ≡ true) (c ∷ cs) → ⊥)
    by true is k = inl (inl is)
    by false is (inl k) = inl (inr k)
    by false is (inr f) = inr (λ h. ⊎_elim (λ now. let z : true ≡ false = sym now ∙ is in cc z) f h)

-- a CON that is outstanding to there, as it began
pub record OpenTo (to : Endpoint) (t : List L.Entry) : Type 0 where
  pub con : Open
  pub there : con.to ≡ to
  pub is_open : IsOpen t con

pub open_to : (to : Endpoint) (t : List L.Entry) → Busy t to → OpenTo to t
open_to to t busy = found (outstanding t) busy (λ c h. h)
  where
    found : (cs : List Open) → Ever (λ (c : Open). same_endpoint c.to to ≡ true) cs
        → ((c : Open) → Ever (λ x. as_begun x ≡ as_begun c) cs → Ever (λ x. as_begun x ≡ as_begun c) (outstanding t))
        → OpenTo to t
    found [] h lift = absurd h
    found (c ∷ cs) (inl h) lift = record {
      con = as_begun c;
      there = same_endpoint_is c.to to h;
      is_open = lift c (inl refl);
    }
    found (c ∷ cs) (inr h) lift = found cs h (λ y k. lift y (inr k))

-- what calls add to the trace of the message layer
pub front_of : (config : Config) (cs t : List S.Call)
    → (front : List L.Entry) × (server_layer config (cs ++ t) ≡ front ++ server_layer config t)
front_of config [] t = ([], refl)
front_of config (c ∷ cs) t =
    let k = front_of config cs t in (
      server_adds config (cs ++ t) c ++ k.0,
      server_next config (cs ++ t) c ∙ (ap (λ l. server_adds config (cs ++ t) c ++ l) k.1
          ∙ sym (append_assoc (server_adds config (cs ++ t) c) k.0 (server_layer config t))),
    )
