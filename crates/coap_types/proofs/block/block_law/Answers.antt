use Rattle.coap_types.proofs.Values.BlocksReadBack.{block_says, reads_back}
use Rattle.coap_types.proofs.block.block_law.Goals as goal

pub returns-clause-read_back : goal.returns-clause-read_back
returns-clause-read_back c = reads_back

pub returns-clause-says : goal.returns-clause-says
returns-clause-says c = block_says
