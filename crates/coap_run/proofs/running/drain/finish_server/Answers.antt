use Rattle.std.proofs.Common.{is_err}
use Rattle.coap_run.specs.Run.Ends.{ServerLed}
use Rattle.coap_run.specs.Run.Log.{server_lines}
use Rattle.coap_run.proofs.Recording.Finishing.{server_ends}
use Rattle.coap_run.proofs.running.drain.finish_server.Goals as goal

pub returns : goal.returns
returns g c = λ sender.
    server_ends c.args.addresses (ServerLed g.S.Store.content) (server_lines c.args.addresses sender) c.args.at.0
    (is_err c.args.met) _ _ _ _ _
    (c.in_ok-server_outs.ensures sender) c.in_ok-end.ensures
