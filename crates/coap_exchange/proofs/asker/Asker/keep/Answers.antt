use Rattle.std.proofs.Common.{rules}
use Rattle.coap_exchange.proofs.asker.Asker.keep.Goals as goal

pub returns-clause-step : goal.returns-clause-step
returns-clause-step g c = search rules
