use Rattle.coap_opaque.proofs.Renaming.AnswererCalls.{exchanges_renamed}
use Rattle.coap_opaque.proofs.Renaming.AskerCalls.{exchange_renamed}
use Rattle.coap_opaque.proofs.Renaming.ClientCalls.{client_renamed}
use Rattle.coap_opaque.proofs.Renaming.LayerHistory.{layer_renamed}
use Rattle.coap_opaque.proofs.Renaming.ServerHistory.{server_renamed}
use Rattle.coap_opaque.proofs.laws.opaque_law.Goals as goal

pub returns-clause-layer : goal.returns-clause-layer
returns-clause-layer c rename apart setup t law =
    layer_renamed setup c.layer_law.ensures.exact rename apart t law

pub returns-clause-exchanges : goal.returns-clause-exchanges
returns-clause-exchanges c rename apart setup t law = exchanges_renamed rename apart setup t law

pub returns-clause-askers : goal.returns-clause-askers
returns-clause-askers c rename apart server setup t law = exchange_renamed rename apart server setup t law

pub returns-clause-server : goal.returns-clause-server
returns-clause-server c rename apart limits szx setup t law = server_renamed rename apart limits szx setup t law

pub returns-clause-client : goal.returns-clause-client
returns-clause-client c rename apart server sizes setup t law = client_renamed rename sizes apart server setup t law
