use Rattle.coap_run.proofs.Recording.EachTurn.{observed}
use Rattle.coap_run.proofs.running.turn.on_observe.Goals as goal

pub returns : goal.returns
returns g c =
    observed c.args.when.addresses c.args.when.at.0 c.args.when.word _ _ _ _ _ _ _ c.in_ok-note.ensures _ _ _
    c.in_ok-path.ensures.cases
    (c.in_ok-met.ensures.taken c.args.when.addresses) c.in_ok-met.ensures.refused c.in_ok-finish_client.ensures
