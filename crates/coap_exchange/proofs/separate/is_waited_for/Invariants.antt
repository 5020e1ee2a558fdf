use Rattle.std.proofs.Common.{◌≡◌, drop}
use Rattle.coap_exchange.specs.AnswererSteps.{is_waited_for}
use Rattle.coap_exchange.specs.Machine.Listed.{listed}
use Rattle.coap_exchange.proofs.separate.is_waited_for.Given as goal

abbrev pub invariant-loop-k : goal.invariant-loop-k
invariant-loop-k l = is_waited_for l.to (listed (drop l.k-index l.list)) ≡ is_waited_for l.to (listed l.list)
