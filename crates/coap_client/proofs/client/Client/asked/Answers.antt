use Rattle.coap_client.specs.Object.Held.{seen}
use Rattle.coap_client.proofs.Calls.IsLed.{seen_still}
use Rattle.coap_client.proofs.client.Client.asked.Goals as goal

pub returns : goal.returns
returns g c = record {
  step = seen_still (seen c.self.inside.parts) _ _ c.self.view_is
      (c.asked.ensures.step c.self.inside.parts.asker.state);
}
