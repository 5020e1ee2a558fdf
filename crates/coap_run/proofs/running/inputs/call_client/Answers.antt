use Rattle.std.proofs.Common.{refl}
use Rattle.coap_run.proofs.Recording.Asking.{client_called}
use Rattle.coap_run.proofs.running.inputs.call_client.Goals as goal

pub returns-clause-taken : goal.returns-clause-taken
returns-clause-taken g c = λ addresses. client_called addresses c.args.at.0 _ _ _ _ _ _
    (c.call-answer.ensures.step c.in-Ok.ensures.ok) refl c.in_ok-note.ensures
