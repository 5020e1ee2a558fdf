use Rattle.coap_run.specs.Run.Senders.{sender_in}
use Rattle.coap_run.proofs.Recording.EachTurn.{server_met}
use Rattle.coap_run.proofs.running.turn.on_server_stranger.Goals as goal

pub returns : goal.returns
returns g c =
    server_met c.args.when.addresses g.S.Store.content (sender_in c.args.senders.now) c.args.when.at.0 c.args.when.word
    _ _ _ _ _ _ _
    c.in_ok-note.ensures _ _ _
    (c.in_ok-tell_fed.ensures _ c.args.when.at.0 c.args.when.word c.args.from c.args.bytes.now
    c.feed_server-met.ensures.fed) c.feed_server-met.ensures.quiet
    (c.in_ok-finish_server.ensures (sender_in c.args.senders.now))
