use Rattle.std.proofs.Common.{take, is_some}
use Rattle.coap_types.specs.FirstMoment.{IsFirstMoment}
use Rattle.coap_exchange.specs.AnswererSteps.{first_ready}
use Rattle.coap_exchange.specs.Machine.Listed.{listed}
use Rattle.coap_exchange.proofs.deferrals.one_ready_from.Given as goal

abbrev pub invariant-loop-request : goal.invariant-loop-request
invariant-loop-request l =
    IsFirstMoment (λ now. is_some (first_ready now (listed l.separate) (take l.request-index l.requests))) l.from.0
    l.first
