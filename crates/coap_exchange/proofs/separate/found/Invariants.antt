use Rattle.std.proofs.Common.{◌≡◌, drop}
use Rattle.coap_exchange.specs.AnswererSteps.{found}
use Rattle.coap_exchange.specs.Machine.Listed.{listed}
use Rattle.coap_exchange.proofs.separate.found.Given as goal

abbrev pub invariant-loop-k : goal.invariant-loop-k
invariant-loop-k l = found l.to l.id.0 (listed (drop l.k-index l.list)) ≡ found l.to l.id.0 (listed l.list)
