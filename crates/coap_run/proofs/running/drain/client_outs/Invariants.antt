use Rattle.std.proofs.Common.{List, Some, map, length}
use Rattle.coap_client.specs.Trace.{NextOut}
use Rattle.coap_record.specs.Record.{OfClient}
use Rattle.coap_run.specs.Run.Acts.{Acts}
use Rattle.coap_run.specs.Run.Ends.{ClientLed}
use Rattle.coap_run.specs.Run.Turning.{of_client}
use Rattle.coap_run.proofs.running.drain.client_outs.Given as goal

abbrev pub decreases-outs : goal.decreases-outs
decreases-outs g l = length l.end.client.layer.layer.queue

abbrev pub invariant-outs : goal.invariant-outs
invariant-outs g l = (taken : List _) × Acts l.addresses ClientLed OfClient of_client l.fn.at.0
    (map (λ p. NextOut (Some p)) taken) l.initial.end l.initial.log l.end l.log
