use Rattle.std.proofs.Common.{[]}
use Rattle.coap_arguments.specs.declared.orders.What.TheVariants.{Get}
use Rattle.coap_asking.specs.Asked.{asked_request}
use Rattle.coap_waits.specs.Linked.{GoesOver}
use Rattle.coap_asking.specs.Polls.{IsNext}
use Rattle.coap_wires.specs.Serves.{nothing_fed}
use Rattle.coap_asking.proofs.polling.polled.Given as goal

-- so many readings were made and written, over the client's link, and the next may begin
abbrev pub invariant-loop-before : goal.invariant-loop-before
invariant-loop-before g l =
    let options = l.polling.options.now in
    let link = g.L.Link in
    record {
      next : IsNext options l.polling.every (asked_request Get l.polling.path.now options []) l.before l.begin.0
          l.fn.client l.client (g.O.Write.contents l.fn.out) (g.O.Write.contents l.out);
      over : GoesOver link.sends link.receives link.fault_count l.fn.client l.fn.connection.link.now
          (nothing_fed l.fn.word) l.client l.connection.link.now l.tally;
    }
