use Rattle.std.proofs.Common.{◌≡◌, ◌++◌, take, drop, map}
use Rattle.coap_exchange.specs.Machine.Listed.{reverted}
use Rattle.coap_exchange.proofs.listed.revert.Given as goal

abbrev pub invariant-loop-k : goal.invariant-loop-k
invariant-loop-k g l = l.list ≡ map reverted (take l.k-index l.initial.list) ++ drop l.k-index l.initial.list
