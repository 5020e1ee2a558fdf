use Rattle.coap_waits.specs.Asks.{AsksNothing}
use Rattle.coap_waits.proofs.TurnCalls.{client_turned, client_turned_at}
use Rattle.coap_waits.proofs.client_turns.turn_now.Goals as goal

pub returns-clause-over : goal.returns-clause-over
returns-clause-over g c = c.get_turn.ensures

pub returns-clause-turned : goal.returns-clause-turned
returns-clause-turned g c = client_turned_at _ _ _ _ _ _ _ _ _ _ _ _ _ c.get_turn.ensures

pub returns-clause-asks : goal.returns-clause-asks
returns-clause-asks g c = client_turned AsksNothing (λ call is. is) _ _ _ _ _ _ _ _ _ _ _ _ _ c.get_turn.ensures
