use Rattle.coap_promise.proofs.Paced.HopsAreAChannel.{channel}
use Rattle.coap_promise.proofs.Paced.OneClock.{by_two}
use Rattle.coap_promise.proofs.laws.clocks_law.Goals as goal

pub returns-clause-one : goal.returns-clause-one
returns-clause-one c = by_two

pub returns-clause-channel : goal.returns-clause-channel
returns-clause-channel c = channel
