-- A live observation is the one that has its token.
use Rattle.std.proofs.Common.{◌≡◌, inl, inr, ℕ, Bool, true, false, cond, Some, List, ◌∷◌, [], refl, ap, sym, ◌∙◌}
use Rattle.coap_types.specs.declared.endpoint.Endpoint.{Endpoint}
use Rattle.coap_layer.specs.declared.setup.Setup.{Setup}
use Rattle.coap_block.specs.Sizes.{Sizes}
use Rattle.coap_exchange.specs.Tokens.{same_token}
use Rattle.coap_exchange.proofs.Facts.SameToken.{same_token_self}
use Rattle.coap_client.specs.Trace.{Call}
use Rattle.coap_client.specs.Own.{Registering, Cancelling, Observation}
use Rattle.coap_client.specs.Observations.{observation_with}
use Rattle.coap_client.specs.Law.{ClientLaw, own_of}
use Rattle.coap_client_laws.specs.Follows.Live.{IsLive}
use Rattle.coap_client.specs.Sendings.{Sending}
use Rattle.coap_client_laws.proofs.Observing.Notified.{in_found, live_in}
use Rattle.coap_client_laws.proofs.Observing.ObservationSources.{In}
use Rattle.coap_client_laws.proofs.Observing.StaysLive.{found_in, one_found, once_there}
use Rattle.coap_client.proofs.Facts.Places.PlaceLemmas.{found_by_token}
use Rattle.coap_client_laws.proofs.Sending.Tokens.{Registered, live, one_of_token}

with_there : (os : List Observation) (o : Observation) → In o os
    → (p : Observation) × (observation_with o.token os ≡ Some p)
with_there [] o h = absurd h
with_there (q ∷ os) o (inl e) = (
  q,
  ap (λ b. cond b (Some q) (observation_with o.token os))
      (ap (λ (x : Observation). same_token o.token x.token) e ∙ same_token_self o.token),
)
with_there (q ∷ os) o (inr h) = by (same_token o.token q.token) (with_there os o h)
  where
    by : (b : Bool) → (p : Observation) × (observation_with o.token os ≡ Some p)
        → (p : Observation) × (cond b (Some q) (observation_with o.token os) ≡ Some p)
    by true ih = (q, refl)
    by false ih = ih

module _ (server : Endpoint) (sizes : Sizes) (setup : Setup) (t : List Call) (law : ClientLaw server sizes setup t)
  where
    abbrev os : List Observation
    os = (own_of sizes t).observations

    pub registered : (o : Observation) → In o os → Registered sizes t o.number o.path o.token
    registered o there = live_in (Registered sizes t) os o (live sizes server setup t law) there

    -- two of one token have one number
    pub same_number_of : (o p : Observation) → In o os → In p os → o.token ≡ p.token → p.number ≡ o.number
    same_number_of o p there here same =
        let a = registered o there in
        let b = registered p here in
        elim (one_of_token sizes server setup t law a.sending b.sending a.sent b.sent
        (a.token_is ∙ (same ∙ sym b.token_is))) [
          | inl e ↦ (
              let both : Registering p.number p.path ≡ Registering o.number o.path = sym b.operation
              ∙ (ap (λ (x : Sending). x.operation) (sym e) ∙ a.operation) in
              cc both)
          | inr d ↦ elim d [
            | inl x ↦ (
                let z : Registering p.number p.path ≡ Cancelling x.number = sym b.operation ∙ x.cancels in absurd (cc z))
            | inr x ↦ (
                let z : Registering o.number o.path ≡ Cancelling x.number = sym a.operation ∙ x.cancels in absurd (cc z))
          ]
        ]

    pub found_with : (number : ℕ) (path : List (List ℕ)) (token : List ℕ) → (l : IsLive sizes number path token t)
        → observation_with token os ≡ Some l.observation
    found_with number path token l =
        let o = l.observation in
        let f = found_in number os o l.found in
        let w = with_there os o f.0 in
        let same : o.token ≡ w.0.token = (found_by_token o.token os w.0 w.1).0 in
        let here = in_found o.token os w.0 w.1 in
        let number_is = same_number_of o w.0 f.0 here same ∙ f.1 in
        let one : w.0 ≡ o = one_found number os o w.0 (once_there server sizes setup t law number) l.found here
        number_is in
        ap (λ k. observation_with k os) (sym l.token_is) ∙ (w.1 ∙ ap (λ x. Some x) one)
