use Rattle.coap_server.proofs.Calls.WorkFalls.{closes_delay, led_on, same_led}
use Rattle.coap_server.proofs.server.Server.set_delay.Goals as goal

pub invariant_of-self : goal.invariant_of-self
invariant_of-self g c =
    let kept = c.self.invariant in (
      closes_delay c.set_delay_parts.result (λ other. led_on _ _ _ kept.0 (c.set_delay_parts.ensures.step other))
          (λ memory. same_led g.S.Store.content _ _ kept.0 (c.set_delay_parts.ensures.memory memory)),
      c.set_delay_parts.ensures.timed,
    )
