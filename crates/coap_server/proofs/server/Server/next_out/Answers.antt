use Rattle.std.proofs.Common.{rules}
use Rattle.coap_server.specs.Trace.{NextOut}
use Rattle.coap_server.proofs.Calls.TakesOut.{if_none, if_some}
use Rattle.coap_server.proofs.Calls.WorkFalls.{led_on, seen_led}
use Rattle.coap_server.proofs.server.Server.next_out.Goals as goal

pub returns-clause-step : goal.returns-clause-step
returns-clause-step g c = search rules

pub invariant_of-self : goal.invariant_of-self
invariant_of-self g c = (
  led_on (NextOut c.next_out.result) _ _
      (seen_led g.S.Store.content _ _ c.self.view_is c.self.invariant.0) (returns-clause-step g c),
  c.self.invariant.1,
)

pub returns-clause-none : goal.returns-clause-none
returns-clause-none g c = if_none c.next_out.result _ _ (seen_led g.S.Store.content _ _ c.self.view_is
    c.self.invariant.0)
    (returns-clause-step g c)

pub returns-clause-some : goal.returns-clause-some
returns-clause-some g c = if_some c.next_out.result _ _ (returns-clause-step g c)
