use Rattle.coap_kept.proofs.GoingOn.{if_some}
use Rattle.coap_kept.proofs.kept.KeptEnd.due.Goals as goal

pub returns-clause-does : goal.returns-clause-does
returns-clause-does g c = if_some c.due.result (λ at h word did n is. h word did is.0 is.1) c.due.ensures.does
