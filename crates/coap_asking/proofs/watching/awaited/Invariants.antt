use Rattle.coap_waits.specs.Linked.{GoesOver}
use Rattle.coap_wires.specs.Serves.{nothing_fed}
use Rattle.coap_asking.proofs.WatchedCalls.{Going}
use Rattle.coap_asking.proofs.watching.awaited.Given as goal

-- so far the observation goes on, over the client's link, and what was taken is written
abbrev pub invariant-loop-turn : goal.invariant-loop-turn
invariant-loop-turn g l =
    let link = g.L.Link in
    record {
      going : Going l.fn.watching.options.now l.fn.watching.again l.fn.id.0 l.fn.heard l.fn.client
          (g.W.Write.contents l.fn.out) l.heard l.client (g.W.Write.contents l.out);
      over : GoesOver link.sends link.receives link.fault_count l.fn.client l.fn.connection.link.now
          (nothing_fed l.fn.word) l.client l.connection.link.now l.tally;
    }
