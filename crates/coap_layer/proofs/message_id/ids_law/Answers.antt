use Rattle.coap_layer.proofs.Numbers.EqualIdsAreApart.{apart, numbers_law, ids_exact}
use Rattle.coap_layer.proofs.message_id.ids_law.Goals as goal

pub returns-clause-exact : goal.returns-clause-exact
returns-clause-exact c = ids_exact

pub returns-clause-numbers : goal.returns-clause-numbers
returns-clause-numbers c = numbers_law

pub returns-clause-apart : goal.returns-clause-apart
returns-clause-apart c = apart
