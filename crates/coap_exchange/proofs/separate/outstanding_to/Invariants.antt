use Rattle.std.proofs.Common.{◌≡◌, drop}
use Rattle.coap_exchange.specs.Peers.{outstanding_to}
use Rattle.coap_exchange.specs.Machine.Listed.{listed}
use Rattle.coap_exchange.proofs.separate.outstanding_to.Given as goal

abbrev pub invariant-loop-k : goal.invariant-loop-k
invariant-loop-k l = outstanding_to l.to (listed (drop l.k-index l.list)) ≡ outstanding_to l.to (listed l.list)
