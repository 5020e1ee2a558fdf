use Rattle.std.proofs.Common.{refl}
use Rattle.coap_run.proofs.Recording.Asking.{client_observed}
use Rattle.coap_run.proofs.running.inputs.observe_client.Goals as goal

pub returns-clause-taken : goal.returns-clause-taken
returns-clause-taken g c = λ addresses. client_observed addresses c.args.at.0 _ _ _ _ _ _
    (c.observe-answer.ensures.step c.in-Ok.ensures.ok) refl c.in_ok-note.ensures
