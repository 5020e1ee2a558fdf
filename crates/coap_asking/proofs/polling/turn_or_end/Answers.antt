use Rattle.coap_waits.specs.Asks.{AsksNothing}
use Rattle.coap_waits.specs.Linked.{here, turned}
use Rattle.coap_waits.proofs.Facts.{client_turned, client_turned_at}
use Rattle.coap_asking.proofs.polling.turn_or_end.Goals as goal

pub returns-clause-told : goal.returns-clause-told
returns-clause-told g c =
    (_, c.in_ok-now.ensures, tt, (client_turned_at _ _ _ _ _ _ _ _ _ _ _ _ _ c.get_turn.ensures, c.get_turn.ensures))

pub returns-clause-asks : goal.returns-clause-asks
returns-clause-asks g c = client_turned AsksNothing (λ call is. is) _ _ _ _ _ _ _ _ _ _ _ _ _ c.get_turn.ensures

pub returns-then-is_late-clause-over : goal.returns-then-is_late-clause-over
returns-then-is_late-clause-over g c = here

pub returns-clause-over : goal.returns-clause-over
returns-clause-over g c = turned _ _ _ _ _ _ _ here c.get_turn.ensures
