use Rattle.std.proofs.Common.{List, Some, map, length}
use Rattle.coap_client.specs.Trace.{NextReport}
use Rattle.coap_record.specs.Record.{OfClient}
use Rattle.coap_run.specs.Run.Acts.{Acts}
use Rattle.coap_run.specs.Run.Ends.{ClientLed}
use Rattle.coap_run.specs.Run.Turning.{of_client}
use Rattle.coap_record.specs.declared.addresses.Addresses.{Addresses}
use Rattle.coap_run.proofs.running.drain.client_reports.Given as goal

abbrev pub decreases-reports : goal.decreases-reports
decreases-reports g l = length l.end.client.own.reports

abbrev pub invariant-reports : goal.invariant-reports
invariant-reports g l = (addresses : Addresses) → (taken : List _)
    × Acts addresses ClientLed OfClient of_client l.fn.at.0
    (map (λ r. NextReport (Some r)) taken) l.initial.end l.initial.log l.end l.log
