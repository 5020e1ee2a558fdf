use Rattle.coap_given_back.proofs.Witness.WaitsLongest.{waited}
use Rattle.coap_given_back.proofs.laws.given_back_witness.Goals as goal

pub returns : goal.returns
returns c = waited
