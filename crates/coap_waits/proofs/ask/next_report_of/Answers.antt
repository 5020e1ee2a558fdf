use Rattle.coap_waits.specs.Asks.{AsksNothing}
use Rattle.coap_waits.specs.Linked.{PassesNothing}
use Rattle.coap_waits.proofs.TurnCalls.{turned_by}
use Rattle.coap_waits.proofs.ask.next_report_of.Goals as goal

pub returns-in_default-clause-none : goal.returns-in_default-clause-none
returns-in_default-clause-none g c = turned_by AsksNothing _ _ _ tt c.next_report.ensures.step

pub returns-in_default-clause-other : goal.returns-in_default-clause-other
returns-in_default-clause-other g c = (_, c.next_report.ensures.step)

pub returns-in_default-clause-own : goal.returns-in_default-clause-own
returns-in_default-clause-own g c = turned_by PassesNothing _ _ _ tt c.next_report.ensures.step

pub returns-in-Some-clause-own : goal.returns-in-Some-clause-own
returns-in-Some-clause-own g c = turned_by PassesNothing _ _ _ tt c.next_report.ensures.step
