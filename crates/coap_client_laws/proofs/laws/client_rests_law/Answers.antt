use Rattle.coap_client_laws.proofs.Progress.GoesOn.{goes_on}
use Rattle.coap_client_laws.proofs.Rest.Ending.{one_state, ticks_end}
use Rattle.coap_client_laws.proofs.Rest.ComesToRest.{comes_to_rest}
use Rattle.coap_client_laws.proofs.laws.client_rests_law.Goals as goal

pub returns-clause-goes : goal.returns-clause-goes
returns-clause-goes c = goes_on

pub returns-clause-left : goal.returns-clause-left
returns-clause-left c = one_state

pub returns-clause-ticks : goal.returns-clause-ticks
returns-clause-ticks c = ticks_end

pub returns-clause-rests : goal.returns-clause-rests
returns-clause-rests c = comes_to_rest
