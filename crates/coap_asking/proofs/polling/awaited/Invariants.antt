use Rattle.coap_waits.specs.Asks.{Turned, TurnsInTime}
use Rattle.coap_waits.specs.Linked.{GoesOver}
use Rattle.coap_asking.proofs.polling.awaited.Given as goal

-- so far the client was asked for nothing, in time, and goes on over its link
abbrev pub invariant-loop-turn : goal.invariant-loop-turn
invariant-loop-turn g l =
    let link = g.L.Link in
    record {
      asked : Turned (TurnsInTime l.fn.give_up l.fn.begin.0) l.fn.client l.client;
      over : GoesOver link.sends link.receives link.fault_count l.fn.client l.fn.connection.link.now l.fn.tally l.client
          l.connection.link.now l.tally;
    }
