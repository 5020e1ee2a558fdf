use Rattle.coap_run.proofs.Recording.EachTurn.{client_met}
use Rattle.coap_run.proofs.running.turn.on_client_stranger.Goals as goal

pub returns : goal.returns
returns g c =
    client_met c.args.when.addresses c.args.when.at.0 c.args.when.word _ _ _ _ _ _ c.in_ok-note.ensures _ _ _
    c.in_ok-met.ensures.fed c.in_ok-met.ensures.quiet
    c.in_ok-finish_client.ensures
