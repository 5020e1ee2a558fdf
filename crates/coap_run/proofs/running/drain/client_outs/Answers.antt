use Rattle.std.proofs.Common.{refl}
use Rattle.coap_client.specs.Trace.{NextOut}
use Rattle.coap_record.specs.Record.{OfClient}
use Rattle.coap_run.specs.Run.Ends.{ClientLed}
use Rattle.coap_run.specs.Run.Turning.{of_client}
use Rattle.coap_run.proofs.Recording.Acting.{out_more}
use Rattle.coap_run.proofs.Recording.Asking.{client_out}
use Rattle.coap_run.proofs.running.drain.client_outs.Goals as goal

pub outs-preserved : goal.outs-preserved
outs-preserved g c =
    out_more c.args.addresses ClientLed OfClient of_client c.args.at.0 NextOut c.in-Some.datagram _ _ _ _ _ _
    c.outs.invariant
    (client_out c.args.addresses c.args.at.0 c.in-Some.datagram c.outs.end _ _ _ c.in-Some.ensures.step refl
    c.in_ok-give.ensures)
