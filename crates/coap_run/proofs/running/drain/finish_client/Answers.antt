use Rattle.std.proofs.Common.{is_err}
use Rattle.coap_run.specs.Run.Ends.{ClientLed}
use Rattle.coap_run.proofs.Recording.Finishing.{client_ends}
use Rattle.coap_run.proofs.running.drain.finish_client.Goals as goal

pub returns : goal.returns
returns g c =
    client_ends c.args.addresses ClientLed c.args.at.0 (is_err c.args.met) _ _ _ _ _ _ _ c.in_ok-client_outs.ensures
    (c.in_ok-client_reports.ensures c.args.addresses) c.in_ok-end.ensures
