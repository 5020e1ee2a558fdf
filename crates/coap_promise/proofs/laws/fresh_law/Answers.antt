use Rattle.coap_promise.proofs.Facts.Age.Promised.{behind_by, fresh_by, fresh_in, fresh_in_pace, fresh_ticking}
use Rattle.coap_promise.proofs.Facts.Age.Promised.{fresh_by_ticks, fresh_at_one}
use Rattle.coap_promise.proofs.laws.fresh_law.Goals as goal

pub returns-clause-fresh : goal.returns-clause-fresh
returns-clause-fresh c k config events turns run legal = fresh_in_pace k config events turns run legal

pub returns-clause-gains : goal.returns-clause-gains
returns-clause-gains c k config events turns run legal gain gains = fresh_by k config events turns run legal gain gains

pub returns-clause-by_type : goal.returns-clause-by_type
returns-clause-by_type c k config events turns run legal gain gains kind =
    fresh_in k config events turns run legal gain gains kind

pub returns-clause-by_one : goal.returns-clause-by_one
returns-clause-by_one c = fresh_at_one

pub returns-clause-behind : goal.returns-clause-behind
returns-clause-behind c = behind_by

pub returns-clause-ticking : goal.returns-clause-ticking
returns-clause-ticking c k config events turns run legal time = fresh_ticking k config events turns run legal time

pub returns-clause-ticks : goal.returns-clause-ticks
returns-clause-ticks c k config events turns run legal time short = fresh_by_ticks k config events turns run legal time
    short
