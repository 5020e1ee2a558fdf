use Rattle.coap_client.specs.Object.Held.{seen}
use Rattle.coap_client.proofs.Calls.Watched.{apart, led_step}
use Rattle.coap_client.proofs.client.Client.forget.Goals as goal

pub invariant_of-self : goal.invariant_of-self
invariant_of-self g c = led_step (seen c.self.inside.parts) _ _ c.self.invariant
    c.forget.ensures.step.1

pub forget-requires : goal.forget-requires
forget-requires g c = record {
  apart = apart (seen c.self.inside.parts)
      c.self.invariant;
}
