use Rattle.std.proofs.Common.{ap, ◌∙◌}
use Rattle.coap_exchange.specs.Machine.Listed.{listed}
use Rattle.coap_exchange.proofs.Calls.Lists.{reverted_now}
use Rattle.coap_exchange.proofs.listed.put_back.Goals as goal

pub returns-clause-now : goal.returns-clause-now
returns-clause-now g c = ap listed c.revert_all.ensures.items ∙ reverted_now c.args.list.now.items
