use Rattle.coap_fair.proofs.Witness.FifthComes.{answered}
use Rattle.coap_fair.proofs.laws.fair_witness.Goals as goal

pub returns : goal.returns
returns c = answered
