use Rattle.coap_promise.proofs.Progress.EachPosition as position
use Rattle.coap_promise.proofs.laws.no_fault_law.Goals as goal

pub returns : goal.returns
returns c = record { no_fault = position.no_fault }
