use Rattle.coap_run.proofs.Recording.EachTurn.{cancelled}
use Rattle.coap_run.proofs.running.turn.on_cancel.Goals as goal

pub returns : goal.returns
returns g c =
    cancelled c.args.when.addresses c.args.when.at.0 c.args.when.word _ _ _ _ _ _ _ c.in_ok-note.ensures _
    (c.in_ok-cancel_client.ensures c.args.when.addresses)
    c.in_ok-finish_client.ensures
