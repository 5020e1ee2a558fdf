use Rattle.std.proofs.Common.{◌≡◌, ◌++◌, ◌-◌, length, take, drop}
use Rattle.coap_exchange.specs.AnswererSteps.{without_ready}
use Rattle.coap_exchange.specs.Machine.Listed.{listed}
use Rattle.coap_exchange.proofs.deferrals.ready_place.Given as goal

abbrev pub invariant-loop-i : goal.invariant-loop-i
invariant-loop-i l = take l.i l.requests ++ without_ready l.at.0 (listed l.separate) (drop l.i l.requests)
    ≡ without_ready l.at.0 (listed l.separate) l.requests

abbrev pub decreases-loop-i : goal.decreases-loop-i
decreases-loop-i l = length l.requests - l.i
