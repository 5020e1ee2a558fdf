use Rattle.coap_run.proofs.Recording.EachTurn.{client_ticked}
use Rattle.coap_run.proofs.running.turn.on_client_tick.Goals as goal

pub returns : goal.returns
returns g c =
    client_ticked c.args.when.addresses c.args.when.at.0 c.args.when.word _ _ _ _ _ _ c.in_ok-note.ensures _
    c.in_ok-met.ensures.passed c.in_ok-met.ensures.idle
    c.in_ok-finish_client.ensures
