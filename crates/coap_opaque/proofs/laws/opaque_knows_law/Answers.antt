use Rattle.coap_opaque.proofs.Renaming.Knowing.{client_knows, server_knows}
use Rattle.coap_opaque.proofs.laws.opaque_knows_law.Goals as goal

pub returns-clause-server : goal.returns-clause-server
returns-clause-server c rename apart s now peer = server_knows rename apart peer s now

pub returns-clause-client : goal.returns-clause-client
returns-clause-client c rename apart s peer = client_knows rename apart peer s
