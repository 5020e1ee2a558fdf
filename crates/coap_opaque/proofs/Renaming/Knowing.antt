-- Whether an end knows a peer is whether it knows what stands for it, with others in the place of its endpoints.
use Rattle.std.proofs.Common.{◌≡◌, ℕ, max, ◌||◌, Option, Some, None, List, refl, ap, ap₂, ◌∙◌, map, option_map}
use Rattle.std.specs.List.{list_any}
use Rattle.coap_types.specs.SameEndpoint.{same_endpoint}
use Rattle.coap_types.specs.declared.endpoint.Endpoint.{Endpoint}
use Rattle.coap_layer.specs.Machine.Peers as layer
use Rattle.coap_layer.specs.Machine.State as L
use Rattle.coap_layer.specs.Trace.{Packet}
use Rattle.coap_layer.specs.Words.{Awaited}
use Rattle.coap_block.specs.AssemblyState.{PartialBody, forgotten, is_live}
use Rattle.coap_observe.specs.Observers.{Observer}
use Rattle.coap_exchange.specs.AnswererLaw as W
use Rattle.coap_exchange.specs.Peers as exchanges
use Rattle.coap_exchange.specs.declared.answerer.Asked.{Asked}
use Rattle.coap_exchange.specs.declared.separate.Deferred.{Deferred}
use Rattle.coap_exchange.specs.declared.separate.Separate.{Separate}
use Rattle.coap_client.specs.Led as client
use Rattle.coap_server.specs.Led as server
use Rattle.coap_server.specs.Load.{moment}
use Rattle.coap_server.specs.Peers as P
use Rattle.coap_server.specs.Trace.{Waiting}
use Rattle.coap_opaque.specs.Renaming.Endpoints.{TellsApart}
use Rattle.coap_opaque.specs.Renaming.OfClient as of_client
use Rattle.coap_opaque.specs.Renaming.OfExchanges as X
use Rattle.coap_opaque.specs.Renaming.OfLayer as R
use Rattle.coap_opaque.specs.Renaming.OfServer as S
use Rattle.coap_opaque.specs.Silent.{knows}
use Rattle.coap_opaque.proofs.Renaming.LayerParts.{busy_same}
use Rattle.coap_opaque.proofs.Renaming.Lists.{any_same, filter_same}

module _ (rename : Endpoint → Endpoint) (apart : TellsApart rename) (peer : Endpoint) where
  -- one of a list is of the peer, by the endpoint that each has
  of_peer : {Z : Type 0} (f : Z → Z) (at : Z → Endpoint) → ((x : Z) → at (f x) ≡ rename (at x)) → (xs : List Z)
      → list_any (λ x. same_endpoint (at x) (rename peer)) (map f xs) ≡ list_any (λ x. same_endpoint (at x) peer) xs
  of_peer f at is xs =
      any_same f (λ x. same_endpoint (at x) peer) (λ x. same_endpoint (at x) (rename peer))
      (λ x. ap (λ a. same_endpoint a (rename peer)) (is x) ∙ apart (at x) peer) xs

  awaited_same : (o : Option Awaited)
      → layer.is_awaited (rename peer) (option_map (R.awaited rename) o) ≡ layer.is_awaited peer o
  awaited_same None = refl
  awaited_same (Some w) = apart w.from peer

  asked_same : (o : Option Asked)
      → exchanges.is_asked_by (rename peer) (option_map (X.asked rename) o) ≡ exchanges.is_asked_by peer o
  asked_same None = refl
  asked_same (Some a) = apart a.from peer

  in_layer : (s : L.State) → layer.knows (rename peer) (R.state rename s) ≡ layer.knows peer s
  in_layer s =
      ap₂ (λ a b. a || b) (busy_same rename apart peer s.open_cons)
      (ap₂ (λ a b. a || b) (of_peer (R.packet rename) (λ (p : Packet). p.to) (λ p. refl) s.queue)
      (awaited_same s.awaits))

  in_exchanges : (s : W.State)
      → exchanges.knows (rename peer) (record { own = X.own rename s.own; layer = R.state rename s.layer })
      ≡ exchanges.knows peer s
  in_exchanges s =
      ap₂ (λ a b. a || b) (in_layer s.layer)
      (ap₂ (λ a b. a || b) (of_peer (X.separate rename) (λ (d : Separate). d.to) (λ d. refl) s.own.separate)
      (ap₂ (λ a b. a || b) (of_peer (X.deferred rename) (λ (d : Deferred). d.asked.from) (λ d. refl) s.own.deferred)
      (asked_same s.own.pending)))

  uploads_same : (now : ℕ) (ps : List PartialBody)
      → P.uploads (rename peer) (forgotten now (map (S.partial rename) ps)) ≡ P.uploads peer (forgotten now ps)
  uploads_same now ps =
      ap (P.uploads (rename peer)) (filter_same (S.partial rename) (is_live now) (is_live now) (λ p. refl) ps)
      ∙ of_peer (S.partial rename) (λ (p : PartialBody). p.key.from) (λ p. refl) (forgotten now ps)

  pub server_knows : (s : server.State) (now : ℕ) → P.knows (S.state rename s) now (rename peer) ≡ P.knows s now peer
  server_knows s now =
      ap₂ (λ a b. a || b) (in_exchanges (server.exchanges_of s))
      (ap₂ (λ a b. a || b) (of_peer (S.observer rename) (λ (o : Observer). o.to) (λ o. refl) s.own.observers)
      (ap₂ (λ a b. a || b) (uploads_same (max s.own.uploads.clock (moment s now)) s.own.uploads.partials)
      (of_peer (S.waiting rename) (λ (w : Waiting). w.asked.from) (λ w. refl) s.own.waiting)))

  pub client_knows : (s : client.State) → knows (of_client.state rename s) (rename peer) ≡ knows s peer
  client_knows s = ap₂ (λ a b. a || b) (in_layer s.layer.layer) (apart s.layer.own.server peer)
