use Rattle.coap_exchange.proofs.Witness.Client as asker
use Rattle.coap_exchange.proofs.Witness.Server as answerer
use Rattle.coap_exchange.proofs.laws.witness_law.Goals as goal

pub returns-clause-client : goal.returns-clause-client
returns-clause-client c = asker.witness

pub returns-clause-server : goal.returns-clause-server
returns-clause-server c = answerer.witness
