use Rattle.coap_layer.proofs.Paced.AtAnyTime.{of_channel, cons_begun, nons_sent}
use Rattle.coap_layer.proofs.laws.any_time_law.Goals as goal

pub returns-clause-paced : goal.returns-clause-paced
returns-clause-paced c = of_channel

pub returns-clause-begun : goal.returns-clause-begun
returns-clause-begun c = cons_begun

pub returns-clause-plain : goal.returns-clause-plain
returns-clause-plain c = nons_sent
