use Rattle.coap_exchange.proofs.Short.WhenShort.{answer_when_short}
use Rattle.coap_exchange.proofs.laws.answerable_law.Goals as goal

pub returns : goal.returns
returns c = answer_when_short
