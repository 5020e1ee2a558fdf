use Rattle.coap_opaque.proofs.Renaming.ClientCalls.{client_step}
use Rattle.coap_opaque.proofs.Renaming.ServerHistory.{server_step}
use Rattle.coap_opaque.proofs.laws.opaque_step_law.Goals as goal

pub returns-clause-server : goal.returns-clause-server
returns-clause-server c rename apart old new call step = server_step rename apart old new call step

pub returns-clause-client : goal.returns-clause-client
returns-clause-client c rename apart old new call step = client_step rename apart old new call step
