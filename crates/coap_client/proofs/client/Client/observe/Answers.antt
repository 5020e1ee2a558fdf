use Rattle.std.proofs.Common.{ap}
use Rattle.coap_client.specs.Object.Happens.{left}
use Rattle.coap_client.specs.Object.Held.{seen}
use Rattle.coap_client.proofs.Calls.IsLed.{closes_call, same_led, seen_step}
use Rattle.coap_client.proofs.Calls.Watched.{led_step}
use Rattle.coap_client.proofs.client.Client.observe.Goals as goal

pub invariant_of-self : goal.invariant_of-self
invariant_of-self g c =
    closes_call c.observe.result
    (λ other. led_step (seen c.self.inside.parts) _ _ c.self.invariant
    (c.observe.ensures.step other c.self.inside.parts.asker.state))
    (λ memory. same_led (seen c.self.inside.parts) _ c.self.invariant
    (ap (λ o. left o c.self.inside.parts.asker.state) (c.observe.ensures.memory memory)))

pub returns-clause-step : goal.returns-clause-step
returns-clause-step g c other = seen_step (seen c.self.inside.parts) _ _ _
    c.self.view_is (c.observe.ensures.step other c.self.inside.parts.asker.state)
