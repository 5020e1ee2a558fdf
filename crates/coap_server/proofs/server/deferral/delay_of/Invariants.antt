use Rattle.std.proofs.Common.{◌≡◌, map, drop}
use Rattle.coap_server.specs.Deferring.{delay_of}
use Rattle.coap_server.specs.Object.Shown.{delay_as}
use Rattle.coap_server.proofs.server.deferral.delay_of.Given as goal

-- none of those before has the path
abbrev pub invariant-loop-delay : goal.invariant-loop-delay
invariant-loop-delay g l = delay_of l.path (map delay_as (drop l.delay-index l.delays))
    ≡ delay_of l.path (map delay_as l.delays)
