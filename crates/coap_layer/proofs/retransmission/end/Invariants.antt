use Rattle.std.proofs.Common.{◌≡◌, ◌++◌, take, drop, map}
use Rattle.coap_layer.specs.Machine.Sendings.{ended}
use Rattle.coap_layer.proofs.retransmission.end.Given as goal

abbrev pub invariant-loop-c : goal.invariant-loop-c
invariant-loop-c g l = l.sendings ≡ map (ended l.to l.id.0) (take l.c-index l.initial.sendings)
    ++ drop l.c-index l.initial.sendings
