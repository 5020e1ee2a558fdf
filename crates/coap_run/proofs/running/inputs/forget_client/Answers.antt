use Rattle.std.proofs.Common.{refl}
use Rattle.coap_run.proofs.Recording.Asking.{client_forgot}
use Rattle.coap_run.proofs.running.inputs.forget_client.Goals as goal

pub returns : goal.returns
returns g c = λ addresses. client_forgot addresses c.args.at.0 c.args.id.0 c.forget-answer.result _ _ _ _
    c.forget-answer.ensures.step refl
    c.in_ok-note.ensures
