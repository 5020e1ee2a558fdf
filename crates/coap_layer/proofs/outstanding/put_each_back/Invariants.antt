use Rattle.std.proofs.Common.{◌≡◌, ◌++◌, take, drop, map}
use Rattle.coap_layer.specs.Machine.Parts.{put_back}
use Rattle.coap_layer.proofs.outstanding.put_each_back.Given as goal

abbrev pub invariant-loop-c : goal.invariant-loop-c
invariant-loop-c g l = l.sendings ≡ map put_back (take l.c-index l.initial.sendings)
    ++ drop l.c-index l.initial.sendings
