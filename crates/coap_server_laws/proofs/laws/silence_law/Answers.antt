use Rattle.coap_server_laws.proofs.Silence.ForgetsTheSilent.{forgets_the_silent}
use Rattle.coap_server_laws.proofs.Silence.StaysSilent.{stays_silent}
use Rattle.coap_server_laws.proofs.laws.silence_law.Goals as goal

pub returns-clause-silent : goal.returns-clause-silent
returns-clause-silent c limits szx setup t = stays_silent limits szx setup t

pub returns-clause-forgotten : goal.returns-clause-forgotten
returns-clause-forgotten c limits szx setup t = forgets_the_silent limits szx setup t
