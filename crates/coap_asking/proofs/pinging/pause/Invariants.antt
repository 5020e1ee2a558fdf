use Rattle.coap_asking.specs.Pinged.{Drops}
use Rattle.coap_asking.proofs.pinging.pause.Given as goal

-- so far what came was dropped
abbrev pub invariant-loop-turn : goal.invariant-loop-turn
invariant-loop-turn g l =
    let link = g.L.Link in
    Drops link.sends link.receives link.fault_count g.T.Timekeeper.tells l.fn.link l.link
