use Rattle.coap_client.specs.Object.CallShown.{shown_request}
use Rattle.coap_commands.proofs.PairCalls.{refused_handed, taken_handed}
use Rattle.coap_commands.proofs.pair.ask.Goals as goal

pub returns-in_ok-report-in-Ok : goal.returns-in_ok-report-in-Ok
returns-in_ok-report-in-Ok g c =
    taken_handed c.in_ok-now.now.0 (shown_request c.args.request) _ c.in-Ok.id c.args.client.now _ _
    c.in_ok-report-in-Ok.report
    c.in-Ok.is c.in_ok-id.ensures.led c.in_ok-report-in-Ok.ensures.reports

pub returns-in-Err : goal.returns-in-Err
returns-in-Err g c =
    refused_handed c.in_ok-now.now.0 (shown_request c.args.request) _ _ c.args.client.now _ c.in-Err.is
    c.in_ok-id.ensures.led
