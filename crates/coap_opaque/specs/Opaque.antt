-- An end takes no more of an endpoint than whether it is another one: it does the same with others in their place (RFC
-- 7252, section 1.2).
use Rattle.std.specs.Prelude.{◌≡◌, ℕ, List, map}
use Rattle.coap_types.specs.declared.endpoint.Endpoint.{Endpoint}
use Rattle.coap_layer.specs.Rows.{LayerLaw}
use Rattle.coap_layer.specs.Trace.{Entry}
use Rattle.coap_layer.specs.declared.setup.Setup.{Setup}
use Rattle.coap_block.specs.Sizes.{Sizes}
use Rattle.coap_exchange.specs.AnswererLaw as X
use Rattle.coap_exchange.specs.AnswererTrace as E
use Rattle.coap_exchange.specs.AskerLaw as Y
use Rattle.coap_exchange.specs.AskerTrace as A
use Rattle.coap_resource.specs.Limits.{Limits}
use Rattle.coap_client.specs.Law.{ClientLaw}
use Rattle.coap_client.specs.Led as C
use Rattle.coap_client.specs.Trace as client
use Rattle.coap_server.specs.Law.{ServerLaw}
use Rattle.coap_server.specs.Led as S
use Rattle.coap_server.specs.Trace as server
use Rattle.coap_opaque.specs.Renaming.OfClient as of_client
use Rattle.coap_opaque.specs.Renaming.OfExchanges as of_exchanges
use Rattle.coap_opaque.specs.Renaming.OfLayer as of_layer
use Rattle.coap_opaque.specs.Renaming.OfServer as of_server

module _ (rename : Endpoint → Endpoint) where
  -- a history of a message layer stands in its law with others in their place, too
  abbrev pub LayerIsOpaque : Type 0
  LayerIsOpaque = (setup : Setup) (t : List Entry) → LayerLaw setup t → LayerLaw setup (map (of_layer.entry rename) t)

  -- .. and one of a server's exchanges
  abbrev pub ExchangesAreOpaque : Type 0
  ExchangesAreOpaque =
      (setup : Setup) (t : List E.Call) → X.ResponseLaw setup t
      → X.ResponseLaw setup (map (of_exchanges.call rename) t)

  -- .. and one of a client's exchanges, whose server is that which stands for its own
  abbrev pub AskersAreOpaque : Type 0
  AskersAreOpaque =
      (server : Endpoint) (setup : Setup) (t : List A.Call) → Y.ExchangeLaw server setup t
      → Y.ExchangeLaw (rename server) setup (map (of_exchanges.asker_call rename) t)

  -- .. and one of a server, which leaves the same then, with others in their place
  pub record ServerIsOpaque (limits : Limits) (szx : ℕ) (setup : Setup) (t : List server.Call) : Type 0 where
    pub law : ServerLaw limits szx setup (map (of_server.call rename) t)
    pub left : S.state_left limits szx setup (map (of_server.call rename) t)
        ≡ of_server.state rename (S.state_left limits szx setup t)

  -- .. and one of a client, whose server is that which stands for its own
  pub record ClientIsOpaque (server : Endpoint) (sizes : Sizes) (setup : Setup) (t : List client.Call) : Type 0 where
    pub law : ClientLaw (rename server) sizes setup (map (of_client.call rename) t)
    pub left : C.state_left (rename server) sizes setup (map (of_client.call rename) t)
        ≡ of_client.state rename (C.state_left server sizes setup t)
