-- Where each notification of an observation has all of a representation, nothing is fetched for it (RFC 7959, section
-- 2.6).
use Rattle.std.proofs.Common.{◌≡◌, inl, inr, ℕ, Some, List, [], ◌∷◌, ap, sym, subst, ◌∙◌}
use Rattle.coap_types.specs.declared.endpoint.Endpoint.{Endpoint}
use Rattle.coap_layer.specs.declared.setup.Setup.{Setup}
use Rattle.coap_block.specs.Sizes.{Sizes}
use Rattle.coap_client.specs.Trace.{Call}
use Rattle.coap_client.specs.Own.{Calling, Fetching, Notified, Observation}
use Rattle.coap_client.specs.Deeds.{at}
use Rattle.coap_client.specs.Law.{ClientLaw, own_of}
use Rattle.coap_client_laws.specs.Follows.Begins.{WasSent}
use Rattle.coap_client_laws.specs.Follows.LastValue.{HaveAll}
use Rattle.coap_client_laws.specs.Follows.NoneFetched.{NoneFetched}
use Rattle.coap_client.specs.Sendings.{Sending, sends}
use Rattle.coap_client_laws.proofs.Observing.LastValue.{was_shown}
use Rattle.coap_client_laws.proofs.Observing.ObservationSources.{In}
use Rattle.coap_client_laws.proofs.Observing.OfObservations.{AskSource, of_queue, of_call, of_fetch, of_part, SentAs}
use Rattle.coap_client_laws.proofs.Observing.OfObservations.{sent_as}
use Rattle.coap_client_laws.proofs.Observing.OfObservations.{waits_there}
use Rattle.coap_client_laws.proofs.Observing.Values.{Fetched, fetched}
use Rattle.coap_client_laws.proofs.Observing.ValueParts.{found_rest}
use Rattle.coap_client.proofs.Facts.Places.Once.{known}
use Rattle.coap_client.proofs.Facts.Places.PlaceEffects.{AllWait}
use Rattle.coap_client.proofs.Facts.Turning.Leading.{client_back}

module _ (server : Endpoint) (sizes : Sizes) (setup : Setup) (number : ℕ) where
  -- what would be fetched for it is of its newest notification, which is shown
  none_wanted : (t : List Call) → ClientLaw server sizes setup t → HaveAll sizes number t → (o : Observation)
      → In o (own_of sizes t).observations → o.number ≡ number → (r : Notified) → o.rest ≡ Some r → ⊥
  none_wanted t law all o there is r rest =
      let f : Fetched sizes t number r =
      subst (λ i. Fetched sizes t i r) is (fetched sizes server setup t law o there r rest) in
      was_shown server sizes setup number t law all f.first f.is_newest f.none

  -- .. so no call sends a request for it
  none_sends : (t : List Call) (c : Call) → ClientLaw server sizes setup t → HaveAll sizes number t → (x : Sending)
      → sends (own_of sizes t) c ≡ Some x → x.operation ≡ Fetching number → ⊥
  none_sends t c law all x is op = by s.source
    where
      s : SentAs sizes t x
      s = sent_as sizes t c x is

      os : List Observation
      os = (own_of sizes t).observations

      by : AskSource (at s.now (own_of sizes t)) s.effect x.operation → ⊥
      by (of_call j r tr e) = let z : Fetching number ≡ Calling j r tr = sym op ∙ e in cc z
      by (of_queue queue first left) =
          let waits = (known server sizes setup t law.rows law.exchanges.rows).waits in
          let h : AllWait os (Fetching number ∷ queue) = subst (AllWait os) (first ∙ ap (λ o. o ∷ queue) op) waits in
          h.0
      by (of_fetch j e rest left) =
          let n : j ≡ number = (let z : Fetching j ≡ Fetching number = sym e ∙ op in cc z) in
          let p = waits_there os j rest in
          none_wanted t law all p.0 p.2 (p.3 ∙ n) p.1 p.4
      by (of_part j m new b e rest asks left) =
          let n : j ≡ number = (let z : Fetching j ≡ Fetching number = sym e ∙ op in cc z) in
          let p = found_rest j os m rest in
          none_wanted t law all p.0 p.1 (p.2 ∙ n) m p.3

  none_sent : (t : List Call) → ClientLaw server sizes setup t → HaveAll sizes number t → (x : Sending)
      → WasSent sizes x t → x.operation ≡ Fetching number → ⊥
  none_sent [] law all x was op = was
  none_sent (c ∷ t) law all x (inl now) op =
      none_sends t c (client_back server sizes setup (c ∷ []) t law) all.1 x now op
  none_sent (c ∷ t) law all x (inr before) op =
      none_sent t (client_back server sizes setup (c ∷ []) t law) all.1 x before op

pub none_fetched : (server : Endpoint) (sizes : Sizes) (setup : Setup) (t : List Call) → ClientLaw server sizes setup t
    → NoneFetched sizes t
none_fetched server sizes setup t law number all x was op = none_sent server sizes setup number t law all x was op
