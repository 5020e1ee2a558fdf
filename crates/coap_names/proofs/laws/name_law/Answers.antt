use Rattle.coap_names.proofs.FirstNames.{in_this_network}
use Rattle.coap_names.proofs.laws.name_law.Goals as goal

pub returns-clause-this_network : goal.returns-clause-this_network
returns-clause-this_network c = in_this_network
