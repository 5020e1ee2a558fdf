use Rattle.coap_opaque.proofs.Silence.ClientStaysSilent.{forgets_the_silent, stays_silent}
use Rattle.coap_opaque.proofs.laws.client_silence_law.Goals as goal

pub returns-clause-silent : goal.returns-clause-silent
returns-clause-silent c server sizes setup t = stays_silent server sizes setup t

pub returns-clause-forgotten : goal.returns-clause-forgotten
returns-clause-forgotten c server sizes setup t = forgets_the_silent server sizes setup t
