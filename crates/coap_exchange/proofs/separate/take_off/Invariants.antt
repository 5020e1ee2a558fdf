use Rattle.std.proofs.Common.{◌≡◌, ◌++◌, take, drop, map}
use Rattle.coap_exchange.specs.Machine.Outstanding.{over}
use Rattle.coap_exchange.proofs.separate.take_off.Given as goal

abbrev pub invariant-loop-k : goal.invariant-loop-k
invariant-loop-k l = l.list ≡ map (over l.to l.id.0) (take l.k-index l.initial.list) ++ drop l.k-index l.initial.list
