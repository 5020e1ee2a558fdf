use Rattle.std.proofs.Common.{◌≡◌, drop}
use Rattle.coap_exchange.specs.AnswererSteps.{first_ready}
use Rattle.coap_exchange.specs.Machine.Listed.{listed}
use Rattle.coap_exchange.proofs.deferrals.first_ready.Given as goal

abbrev pub invariant-loop-request : goal.invariant-loop-request
invariant-loop-request l = first_ready l.at.0 (listed l.separate) (drop l.request-index l.requests)
    ≡ first_ready l.at.0 (listed l.separate) l.requests
