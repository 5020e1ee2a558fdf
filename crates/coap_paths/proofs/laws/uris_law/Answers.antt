use Rattle.coap_paths.proofs.UrisOfPaths.{read_back}
use Rattle.coap_paths.proofs.laws.uris_law.Goals as goal

pub returns : goal.returns
returns c = read_back
