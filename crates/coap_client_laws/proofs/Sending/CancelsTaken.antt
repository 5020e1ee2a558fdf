-- What cancels an observation was taken as its cancel.
use Rattle.std.proofs.Common.{◌≡◌, inl, inr, ℕ, Some, List, ◌∷◌, [], refl, sym, subst, ◌∙◌}
use Rattle.coap_types.specs.Past.{Ever}
use Rattle.coap_types.specs.declared.endpoint.Endpoint.{Endpoint}
use Rattle.coap_layer.specs.declared.setup.Setup.{Setup}
use Rattle.coap_block.specs.Sizes.{Sizes}
use Rattle.coap_client.specs.Trace.{Call}
use Rattle.coap_client.specs.Own.{Operation, Calling, Fetching, Cancelling}
use Rattle.coap_client.specs.Deeds.{at}
use Rattle.coap_client.specs.Law.{ClientLaw, own_of}
use Rattle.coap_client_laws.specs.Follows.Answered.{IsSentFor}
use Rattle.coap_client_laws.specs.Follows.Begins.{WasSent}
use Rattle.coap_client_laws.specs.Follows.Live.{cancels, CancelsAreTaken}
use Rattle.coap_client.specs.Sendings.{Sending}
use Rattle.coap_client_laws.proofs.Observing.OfObservations.{AskSource, of_queue, of_call, of_fetch, of_part, SentAs}
use Rattle.coap_client_laws.proofs.Observing.OfObservations.{sent_as}
use Rattle.coap_client.proofs.Facts.Places.Once.{beneath, known}
use Rattle.coap_client.proofs.Facts.Places.PlaceEffects.{Linked}
use Rattle.coap_client_laws.proofs.Sending.OpenSince.{open_runs}
use Rattle.coap_client_laws.proofs.Sending.LiveTokens.{last_was_sent}
use Rattle.coap_client_laws.proofs.Turning.AllWaiting.{all_wait}
use Rattle.coap_client_laws.proofs.Turning.BlockByBlock.{AllOf}

abbrev IsTaken : List Call → Operation → Type 0
IsTaken t (Cancelling k) = Ever (λ c. cancels c ≡ Some k) t
IsTaken t op = Unit {0}

taken_later : (t : List Call) (c : Call) (op : Operation) → IsTaken t op → IsTaken (c ∷ t) op
taken_later t c (Cancelling k) h = inr h
taken_later t c _ h = tt

module _ (sizes : Sizes) where
  queue_taken : (t : List Call) → AllOf (IsTaken t) (own_of sizes t).queue
  queue_taken = all_wait sizes IsTaken taken_later (λ t now r n. tt) (λ t now path n. tt) (λ t now n. inl refl)

  first_taken : (t : List Call) (x : Sending) (k : ℕ) → SentAs sizes t x → x.operation ≡ Cancelling k
      → Ever (λ c. cancels c ≡ Some k) t
  first_taken t x k s op = by s.source
    where
      by : AskSource (at s.now (own_of sizes t)) s.effect x.operation → Ever (λ c. cancels c ≡ Some k) t
      by (of_queue queue first left) =
          let h : AllOf (IsTaken t) (x.operation ∷ queue) = subst (AllOf (IsTaken t)) first (queue_taken t) in
          subst (IsTaken t) op h.0
      by (of_call j r tr is) = let e : Cancelling k ≡ Calling j r tr = sym op ∙ is in absurd (cc e)
      by (of_fetch j is rest left) = let e : Cancelling k ≡ Fetching j = sym op ∙ is in absurd (cc e)
      by (of_part j n new b is rest asks left) = let e : Cancelling k ≡ Fetching j = sym op ∙ is in absurd (cc e)

  sent_taken : (t : List Call) (x : Sending) (k : ℕ) → WasSent sizes x t → x.operation ≡ Cancelling k
      → Ever (λ c. cancels c ≡ Some k) t
  sent_taken [] x k h op = absurd h
  sent_taken (c ∷ t) x k (inl h) op = inr (first_taken t x k (sent_as sizes t c x h) op)
  sent_taken (c ∷ t) x k (inr h) op = inr (sent_taken t x k h op)

  module _ (server : Endpoint) (setup : Setup) where
    pub cancels_are_taken : (t : List Call) → ClientLaw server sizes setup t → CancelsAreTaken sizes t
    cancels_are_taken t law k runs =
        let l : Linked (Some (Cancelling k)) (own_of sizes t).observations (beneath server sizes setup t).running =
        subst (λ o. Linked o (own_of sizes t).observations (beneath server sizes setup t).running) runs
        (known server sizes setup t law.rows law.exchanges.rows).linked in
        let z = (open_runs server sizes setup t law).is_open l.0 l.1 in
        let both : Some z.2.operation ≡ Some (Cancelling k) = sym z.2.operates ∙ runs in
        let same : z.2.operation ≡ Cancelling k = cc both in
        let for : IsSentFor (Cancelling k) z.2.sending = subst (λ o. IsSentFor o z.2.sending) same z.2.sent_for in
        sent_taken t z.2.sending k (last_was_sent sizes t z.2.sending z.2.last_sent) for
