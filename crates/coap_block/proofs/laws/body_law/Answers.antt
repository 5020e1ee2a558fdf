use Rattle.coap_block.proofs.Joining.OneBody.{one_body, one_body_at_server}
use Rattle.coap_block.proofs.laws.body_law.Goals as goal

pub returns-clause-client : goal.returns-clause-client
returns-clause-client c = one_body

pub returns-clause-server : goal.returns-clause-server
returns-clause-server c = one_body_at_server
