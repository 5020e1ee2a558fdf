use Rattle.coap_waits.specs.Linked.{GoesOver}
use Rattle.coap_asking.specs.ObservedTurns.{Continues}
use Rattle.coap_asking.specs.Observes.{Observed}
use Rattle.coap_wires.specs.Serves.{nothing_fed}
use Rattle.coap_asking.proofs.observe.awaited.Given as goal

-- so far the observation goes on, over the client's link, and what was taken is written
abbrev pub invariant-loop-turn : goal.invariant-loop-turn
invariant-loop-turn g l = record {
  observed : Observed l.fn.options l.fn.begin.0 l.fn.id.0 l.fn.client l.values l.client;
  written : Continues l.fn.options l.fn.begin.0 l.fn.id.0 l.fn.client (g.W.Write.contents l.fn.out) l.values l.client
      (g.W.Write.contents l.out);
  over : GoesOver g.L.Link.sends g.L.Link.receives g.L.Link.fault_count l.fn.client l.fn.connection.link.now
      (nothing_fed l.fn.word) l.client l.connection.link.now l.tally;
}
