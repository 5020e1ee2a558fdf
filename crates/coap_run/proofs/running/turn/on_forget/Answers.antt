use Rattle.coap_run.proofs.Recording.EachTurn.{forgotten}
use Rattle.coap_run.proofs.running.turn.on_forget.Goals as goal

pub returns : goal.returns
returns g c =
    forgotten c.args.when.addresses c.args.when.at.0 c.args.when.word _ _ _ _ _ _ _ c.in_ok-note.ensures _
    (c.in_ok-forget_client.ensures c.args.when.addresses)
    c.in_ok-finish_client.ensures
