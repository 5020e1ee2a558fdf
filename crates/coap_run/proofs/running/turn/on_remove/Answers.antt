use Rattle.coap_run.proofs.Recording.EachTurn.{was_removed}
use Rattle.coap_run.proofs.running.turn.on_remove.Goals as goal

pub returns : goal.returns
returns g c = λ sender past.
    was_removed c.args.when.addresses g.S.Store.content sender c.args.when.at.0 c.args.when.word _ _ _ _ _ _ _
    c.in_ok-note.ensures _
    (c.in_ok-remove_server.ensures c.args.when.addresses sender) (c.in_ok-finish_server.ensures sender) past
