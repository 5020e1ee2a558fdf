use Rattle.coap_server.proofs.Calls.WorkFalls.{closes_set, led_on, same_led}
use Rattle.coap_server.proofs.server.Server.set.Goals as goal

pub invariant_of-self : goal.invariant_of-self
invariant_of-self g c =
    let kept = c.self.invariant in (
      closes_set c.set_parts.result (λ other. led_on _ _ _ kept.0 (c.set_parts.ensures.step other))
          (λ memory. same_led g.S.Store.content _ _ kept.0 (c.set_parts.ensures.memory memory)),
      c.set_parts.ensures.timed,
    )
