use Rattle.coap_resource.proofs.RateLemmas.{rate, count, exceeded}
use Rattle.coap_resource.proofs.laws.rate_law.Goals as goal

pub returns-clause-bound : goal.returns-clause-bound
returns-clause-bound c = rate

pub returns-clause-counted : goal.returns-clause-counted
returns-clause-counted c = count

pub returns-clause-exceeded : goal.returns-clause-exceeded
returns-clause-exceeded c = exceeded
