use Rattle.std.proofs.Common.{◌≡◌, ◌++◌, take, drop, map}
use Rattle.coap_layer.specs.Machine.Parts.{settled}
use Rattle.coap_layer.proofs.outstanding.note.Given as goal

abbrev pub invariant-loop-c : goal.invariant-loop-c
invariant-loop-c g l = l.sendings ≡ map settled (take l.c-index l.initial.sendings) ++ drop l.c-index l.initial.sendings
