use Rattle.coap_showing.proofs.captured.spells.Goals as goal

pub returns-in-Err-clause-no : goal.returns-in-Err-clause-no
returns-in-Err-clause-no c = λ is said. c.in-Err.ensures.none said.0 said.1
