use Rattle.coap_waits.specs.Linked.{GoesOver}
use Rattle.coap_asking.specs.Polls.{Goes, IsLeft}
use Rattle.coap_asking.proofs.polling.pause.Given as goal

-- so far the client was asked for nothing, is through with the call where none is left, and goes on over its link
abbrev pub invariant-loop-turn : goal.invariant-loop-turn
invariant-loop-turn g l =
    let link = g.L.Link in
    record {
      left : Goes (IsLeft l.fn.pending l.left) l.fn.client l.client;
      over : GoesOver link.sends link.receives link.fault_count l.fn.client l.fn.connection.link.now l.fn.tally l.client
          l.connection.link.now l.tally;
    }
