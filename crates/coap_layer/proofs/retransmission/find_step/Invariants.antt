use Rattle.std.proofs.Common.{◌≡◌, drop}
use Rattle.coap_layer.specs.Machine.State.{tick_of}
use Rattle.coap_layer.specs.Machine.Sendings.{open_now}
use Rattle.coap_layer.proofs.retransmission.find_step.Given as goal

abbrev pub invariant-loop-c : goal.invariant-loop-c
invariant-loop-c g l = tick_of l.at.0 (open_now (drop l.c-index l.sendings.items))
    ≡ tick_of l.at.0 (open_now l.sendings.items)
