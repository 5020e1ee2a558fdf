use Rattle.coap_client.specs.Object.Held.{own_of, seen}
use Rattle.coap_client.proofs.Calls.IsLed.{both_err, closes_if, if_ok, on_err, same_led, same_left, seen_step}
use Rattle.coap_client.proofs.Calls.Watched.{apart, led_step}
use Rattle.coap_client.proofs.Facts.Calls.WorkFalls.{ticks_fall}
use Rattle.coap_client.proofs.client.Client.tick.Goals as goal

pub tick-requires : goal.tick-requires
tick-requires g c = record {
  apart = apart (seen c.self.inside.parts) c.self.invariant;
}

pub invariant_of-self : goal.invariant_of-self
invariant_of-self g c =
    closes_if c.tick.result (if_ok c.tick.result
    (λ did s. led_step (seen c.self.inside.parts) _ _ c.self.invariant s.5)
    c.tick.ensures.step)
    (on_err c.tick.result (λ e. same_led (seen c.self.inside.parts) _ c.self.invariant
    (same_left (own_of c.self.inside.parts.held) _ c.self.inside.parts.asker.state _ e.0 e.1))
    (both_err _ _ c.tick.result c.tick.ensures.own c.tick.ensures.layer))

pub returns-clause-step : goal.returns-clause-step
returns-clause-step g c =
    if_ok c.tick.result (λ did s. (
      s.0,
      s.1,
      s.2,
      s.3,
      s.4,
      seen_step (seen c.self.inside.parts) _ _ _ c.self.view_is s.5,
    ))
    c.tick.ensures.step

pub returns-clause-less : goal.returns-clause-less
returns-clause-less g c = ticks_fall c.tick.result _ _ _ _ (returns-clause-step g c)
