use Rattle.std.proofs.Common.{◌≡◌, drop}
use Rattle.coap_layer.specs.Machine.Sendings.{open_now}
use Rattle.coap_layer.specs.Machine.State.{copies}
use Rattle.coap_layer.proofs.outstanding.due_copy.Given as goal

abbrev pub invariant-loop-c : goal.invariant-loop-c
invariant-loop-c g l = copies l.at.0 (open_now (drop l.c-index l.sendings.items))
    ≡ copies l.at.0 (open_now l.sendings.items)
