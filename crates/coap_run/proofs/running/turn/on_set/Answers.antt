use Rattle.coap_run.proofs.Recording.EachTurn.{was_set}
use Rattle.coap_run.proofs.running.turn.on_set.Goals as goal

pub returns : goal.returns
returns g c = λ sender past.
    was_set c.args.when.addresses g.S.Store.content sender c.args.when.at.0 c.args.when.word _ _ _ _ _ _ _
    c.in_ok-note.ensures _ _ _ _
    (c.in_ok-met.ensures.taken c.args.when.addresses sender) c.in_ok-met.ensures.refused
    (c.in_ok-finish_server.ensures sender) past
