use Rattle.coap_asking.specs.Pinged.{Awaits}
use Rattle.coap_asking.proofs.pinging.awaited.Given as goal

-- so far no answer came
abbrev pub invariant-loop-turn : goal.invariant-loop-turn
invariant-loop-turn g l =
    let link = g.L.Link in
    Awaits link.sends link.receives link.fault_count g.T.Timekeeper.tells l.give_up
    l.fn.time l.fn.ping l.fn.link l.time l.ping l.link
