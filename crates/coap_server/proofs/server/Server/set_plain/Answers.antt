use Rattle.coap_server.proofs.Calls.WorkFalls.{closes_plain, led_on, same_led}
use Rattle.coap_server.proofs.server.Server.set_plain.Goals as goal

pub invariant_of-self : goal.invariant_of-self
invariant_of-self g c =
    let kept = c.self.invariant in (
      closes_plain c.set_plain_parts.result (λ other. led_on _ _ _ kept.0 (c.set_plain_parts.ensures.step other))
          (λ memory. same_led g.S.Store.content _ _ kept.0 (c.set_plain_parts.ensures.memory memory)),
      c.set_plain_parts.ensures.timed,
    )
