use Rattle.coap_run.specs.Run.Senders.{sender_in}
use Rattle.coap_run.proofs.Recording.EachTurn.{server_ticked}
use Rattle.coap_run.proofs.running.turn.on_server_tick.Goals as goal

pub returns : goal.returns
returns g c =
    server_ticked c.args.when.addresses g.S.Store.content (sender_in c.args.senders.now) c.args.when.at.0
    c.args.when.word _ _ _ _ _ _ _
    c.in_ok-note.ensures _ c.in_ok-met.ensures.ticked c.in_ok-met.ensures.idle
    (c.in_ok-finish_server.ensures (sender_in c.args.senders.now))
