use Rattle.coap_arguments.proofs.Facts.OneAnswer.{hex_or_wrong, order_or_wrong}
use Rattle.coap_arguments.proofs.laws.one_answer.Goals as goal

pub returns-clause-order : goal.returns-clause-order
returns-clause-order c = order_or_wrong

pub returns-clause-hex : goal.returns-clause-hex
returns-clause-hex c = hex_or_wrong
