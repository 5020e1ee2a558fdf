use Rattle.std.proofs.Common.{rules, subst}
use Rattle.coap_client.specs.Object.Happens.{WasLed}
use Rattle.coap_client.specs.Object.Held.{own_of}
use Rattle.coap_client.proofs.Calls.Watched.{led_step, taken_out}
use Rattle.coap_client.proofs.Calls.TakesOut.{if_none, if_some}
use Rattle.coap_client.proofs.client.Client.next_out.Goals as goal

pub invariant_of-self : goal.invariant_of-self
invariant_of-self g c = led_step _ _ _ c.self.invariant
    (taken_out (own_of c.self.inside.parts.held) c.self.inside.parts.asker.state _ _ c.next_out.ensures.step)

pub returns-clause-step : goal.returns-clause-step
returns-clause-step g c = search rules

pub returns-clause-none : goal.returns-clause-none
returns-clause-none g c = if_none c.next_out.result _ _ (subst WasLed c.self.view_is c.self.invariant)
    (returns-clause-step g c)

pub returns-clause-some : goal.returns-clause-some
returns-clause-some g c = if_some c.next_out.result _ _ (returns-clause-step g c)
