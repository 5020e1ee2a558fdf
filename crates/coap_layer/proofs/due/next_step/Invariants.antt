use Rattle.std.proofs.Common.{take}
use Rattle.coap_types.specs.FirstMoment.{IsFirstMoment}
use Rattle.coap_layer.specs.Machine.Sendings.{open_now}
use Rattle.coap_layer.specs.Machine.Waits.{any_has_step}
use Rattle.coap_layer.proofs.due.next_step.Given as goal

abbrev pub invariant-loop-c : goal.invariant-loop-c
invariant-loop-c g l =
    IsFirstMoment (λ now. any_has_step now (open_now (take l.c-index l.sendings.items))) l.from.0 l.first
