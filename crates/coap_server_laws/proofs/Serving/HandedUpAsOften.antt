-- How often a server is handed a request: as often as its message layer hands it up.
use Rattle.std.proofs.Common.{◌≤◌, ℕ, List, [], ◌∷◌, arith}
use Rattle.coap_layer.specs.Machine.State as S
use Rattle.coap_layer.specs.declared.setup.Setup.{Setup}
use Rattle.coap_resource.specs.Limits.{Limits}
use Rattle.coap_exchange.specs.declared.answerer.Asked.{Asked}
use Rattle.coap_exchange.specs.AnswererLaw as W
use Rattle.coap_server_laws.proofs.Serving.HandedAtMost.{handed_at_most, at_entries}
use Rattle.coap_server.specs.Trace.{Call}
use Rattle.coap_server.specs.Law.{ServerLaw, lower_of, layer_of}
use Rattle.coap_server.specs.Follows.Serves.{times_handed}
use Rattle.coap_server_laws.specs.Follows.HandedUpAsOften.{Counted}
use Rattle.coap_server_laws.specs.Follows.Counts.{ups}
use Rattle.coap_server_laws.proofs.Serving.ServedOnce.{handed_is}
use Rattle.coap_server.proofs.Facts.Serving.Brought.{server_back}

module _ (limits : Limits) (szx : ℕ) (setup : Setup) where
  as_often : (t : List Call) (a : Asked) → ServerLaw limits szx setup t
      → times_handed limits szx a t ≤ ups a (layer_of limits szx setup t)
  as_often t a law =
      let p = handed_is limits szx a t in
      let q = handed_at_most a (lower_of limits szx t) law.exchanges.rows in
      let r = at_entries a (S.start setup) law.exchanges.left
      (W.lower_of (lower_of limits szx t)) law.exchanges.layer in
      omega (arith, p, q, r)

  pub counted : (t : List Call) → ServerLaw limits szx setup t → Counted limits szx setup t
  counted [] law = tt
  counted (c ∷ t) law = (λ a. as_often (c ∷ t) a law, counted t (server_back limits szx setup c t law))
