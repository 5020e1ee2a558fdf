use Rattle.coap_server.proofs.Calls.FeedIsACall.{seen_step}
use Rattle.coap_server.proofs.Calls.WorkFalls.{closes, closes_if, if_ok, led_on, on_err, same_led, same_timed}
use Rattle.coap_server.proofs.Calls.WorkFalls.{seen_led, ticks_fall}
use Rattle.coap_server.proofs.server.Server.tick.Goals as goal

pub invariant_of-self : goal.invariant_of-self
invariant_of-self g c =
    let kept = c.self.invariant in (
      closes_if c.tick_parts.result (if_ok c.tick_parts.result
          (λ did s. led_on _ _ _ kept.0 s.6) c.tick_parts.ensures.step)
          (on_err c.tick_parts.result (λ e. same_led g.S.Store.content _ _ kept.0 e) c.tick_parts.ensures.err),
      closes c.tick_parts.result c.tick_parts.ensures.timed
          (on_err c.tick_parts.result (λ e. same_timed _ _ kept.1 e) c.tick_parts.ensures.err),
    )

pub returns-clause-step : goal.returns-clause-step
returns-clause-step g c =
    if_ok c.tick_parts.result (λ did s. (
      s.0,
      s.1,
      s.2,
      s.3,
      s.4,
      s.5,
      seen_step g.S.Store.content _ _ _ _ c.self.view_is s.6,
    )) c.tick_parts.ensures.step

pub returns-clause-less : goal.returns-clause-less
returns-clause-less g c =
    ticks_fall c.tick_parts.result _ _ _ _ (seen_led g.S.Store.content _ _ c.self.view_is c.self.invariant.0)
    (returns-clause-step g c)
