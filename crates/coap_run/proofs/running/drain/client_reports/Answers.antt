use Rattle.std.proofs.Common.{refl}
use Rattle.coap_client.specs.Object.Shown.{shown_reported}
use Rattle.coap_client.specs.Trace.{NextReport}
use Rattle.coap_record.specs.Record.{OfClient}
use Rattle.coap_run.specs.Run.Ends.{ClientLed}
use Rattle.coap_run.specs.Run.Turning.{of_client}
use Rattle.coap_run.proofs.Recording.Acting.{out_more}
use Rattle.coap_run.proofs.Recording.Asking.{client_report, client_reports_end}
use Rattle.coap_run.proofs.running.drain.client_reports.Goals as goal

pub reports-preserved : goal.reports-preserved
reports-preserved g c = λ addresses.
    out_more addresses ClientLed OfClient of_client c.args.at.0 NextReport
    (shown_reported c.in-Some.told) _ _ _ _ _ _ (c.reports.invariant addresses)
    (client_report addresses c.args.at.0 (shown_reported c.in-Some.told) c.reports.end _ _ _ c.in-Some.ensures.step refl
    c.in_ok-report.ensures)

pub returns : goal.returns
returns g c = λ addresses.
    client_reports_end addresses c.args.at.0 c.args.end.now c.reports.end _ c.args.log.now c.reports.log
    (c.reports.invariant addresses) c.in_default.ensures.step refl
