use Rattle.std.proofs.Common.{refl}
use Rattle.coap_run.proofs.Recording.Asking.{client_cancelled}
use Rattle.coap_run.proofs.running.inputs.cancel_client.Goals as goal

pub returns : goal.returns
returns g c = λ addresses. client_cancelled addresses c.args.at.0 c.args.id.0 _ _ _ _ _ c.cancel-answer.ensures.step
    refl c.in_ok-note.ensures
