use Rattle.coap_options.proofs.OneBehind.{one_more}
use Rattle.coap_options.proofs.laws.options_law.Goals as goal

pub returns : goal.returns
returns c = one_more
