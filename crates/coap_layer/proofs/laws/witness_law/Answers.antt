use Rattle.coap_layer.proofs.Witness.FiveTimes.{five_times}
use Rattle.coap_layer.proofs.Witness.IsAcknowledged.{acknowledged}
use Rattle.coap_layer.proofs.laws.witness_law.Goals as goal

pub returns-clause-five : goal.returns-clause-five
returns-clause-five c = five_times

pub returns-clause-acknowledged : goal.returns-clause-acknowledged
returns-clause-acknowledged c = acknowledged
