use Rattle.coap_waits.specs.Asks.{AsksNothing}
use Rattle.coap_waits.proofs.Facts.{client_sent, client_turned, turned_on}
use Rattle.coap_asking.proofs.leaving.leave.Goals as goal

pub returns-clause-leaves : goal.returns-clause-leaves
returns-clause-leaves g c = (
  _,
  _,
  c.cancel-answer.ensures.step,
  turned_on AsksNothing _ _ _
      (client_turned AsksNothing (λ call is. is) _ _ _ _ _ _ _ _ _ _ _ _ _ c.get_turn.ensures)
      (client_sent AsksNothing (λ p. tt) _ _ _ _ _ _ c.send_all.ensures.chain),
  c.send_all.ensures.empty,
)

pub returns-clause-over : goal.returns-clause-over
returns-clause-over g c =
    (_, _, c.cancel-answer.ensures.step, _, _, c.get_turn.ensures, c.send_all.ensures.chain)
