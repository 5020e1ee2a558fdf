use Rattle.std.proofs.Common.{arith}
use Rattle.coap_asking.specs.Pinged.{more, nothing}
use Rattle.coap_asking.proofs.pinging.pause.Goals as goal

pub loop-turn-init : goal.loop-turn-init
loop-turn-init g c = nothing

pub loop-turn-preserved : goal.loop-turn-preserved
loop-turn-preserved g c =
    more _ _ _ c.loop-turn.invariant c.receive-dropped.ensures.receives c.in_ok-bear.ensures

pub returns-then-since-ge-PING_PERIOD_MS : goal.returns-then-since-ge-PING_PERIOD_MS
returns-then-since-ge-PING_PERIOD_MS g c =
    (omega (arith, c.since.ensures, c.if-since-ge-PING_PERIOD_MS.true), _, c.in_ok-now.ensures, c.loop-turn.invariant)
