use Rattle.coap_client.specs.Object.Held.{seen}
use Rattle.coap_client.proofs.Calls.IsLed.{seen_step}
use Rattle.coap_client.proofs.Calls.Watched.{led_step}
use Rattle.coap_client.proofs.client.Client.cancel.Goals as goal

pub invariant_of-self : goal.invariant_of-self
invariant_of-self g c = led_step (seen c.self.inside.parts) _ _ c.self.invariant
    (c.cancel.ensures.step c.self.inside.parts.asker.state)

pub returns : goal.returns
returns g c = record {
  step = seen_step (seen c.self.inside.parts) _ _ _ c.self.view_is
      (c.cancel.ensures.step c.self.inside.parts.asker.state);
}
