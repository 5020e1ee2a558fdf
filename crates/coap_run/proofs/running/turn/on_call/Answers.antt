use Rattle.std.proofs.Common.{ap}
use Rattle.coap_client.specs.Object.CallShown.{shown_request}
use Rattle.coap_run.proofs.Recording.EachTurn.{called}
use Rattle.coap_run.proofs.running.turn.on_call.Goals as goal

pub returns : goal.returns
returns g c =
    called c.args.when.addresses c.args.when.at.0 c.args.when.word _ _ _ _ _ _ _ c.in_ok-note.ensures _ _ _
    (ap shown_request c.in_ok-request.ensures) (c.in_ok-met.ensures.taken c.args.when.addresses)
    c.in_ok-met.ensures.refused c.in_ok-finish_client.ensures
