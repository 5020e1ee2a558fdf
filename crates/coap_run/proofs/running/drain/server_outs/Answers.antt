use Rattle.std.proofs.Common.{refl, subst}
use Rattle.coap_server.specs.Object.Shown.{state_of}
use Rattle.coap_server.specs.Led.{Step}
use Rattle.coap_server.specs.Trace.{NextOut}
use Rattle.coap_record.specs.Record.{OfServer}
use Rattle.coap_run.specs.Run.Ends.{ServerLed}
use Rattle.coap_run.specs.Run.Log.{server_lines}
use Rattle.coap_run.proofs.Recording.Acting.{out_more}
use Rattle.coap_run.proofs.Recording.Serving.{server_out, server_outs_end}
use Rattle.coap_run.proofs.running.drain.server_outs.Goals as goal

pub outs-preserved : goal.outs-preserved
outs-preserved g c = λ sender.
    out_more c.args.addresses (ServerLed g.S.Store.content) OfServer
    (server_lines c.args.addresses sender) c.args.at.0 NextOut c.in-Some.datagram _ _ _ _ _ _ (c.outs.invariant sender)
    (server_out c.args.addresses g.S.Store.content sender c.args.at.0 c.in-Some.datagram c.outs.end _ _ _
    c.in-Some.ensures.step refl
    c.in_ok-give.ensures)

pub returns : goal.returns
returns g c = λ sender.
    server_outs_end c.args.addresses g.S.Store.content sender c.args.at.0 c.args.end.now c.outs.end _ c.args.log.now
    c.outs.log
    (c.outs.invariant sender)
    (subst (λ o. Step (state_of g.S.Store.content c.outs.end.server) (NextOut o)
    (state_of g.S.Store.content c.next_out.new.self)) c.in_default.is c.next_out.ensures.step) refl
