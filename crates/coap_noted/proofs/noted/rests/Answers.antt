use Rattle.std.proofs.Common.{arith}
use Rattle.coap_noted.proofs.noted.rests.Goals as goal

pub returns-in-None-clause-rests : goal.returns-in-None-clause-rests
returns-in-None-clause-rests g c = λ _ at few within. c.in-None.ensures.none at few

pub returns-else-at-now-clause-rests : goal.returns-else-at-now-clause-rests
returns-else-at-now-clause-rests g c = λ _ at few within.
    c.in-Some.ensures.some at (omega (arith, within, c.if-at-now.false))
