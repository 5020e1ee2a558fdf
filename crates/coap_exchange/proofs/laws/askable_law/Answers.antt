use Rattle.coap_exchange.proofs.Short.WhenShort.{askable_when_short, askable_when_short_exactly}
use Rattle.coap_exchange.proofs.laws.askable_law.Goals as goal

pub returns-clause-counted : goal.returns-clause-counted
returns-clause-counted c = askable_when_short

pub returns-clause-exact : goal.returns-clause-exact
returns-clause-exact c = askable_when_short_exactly
