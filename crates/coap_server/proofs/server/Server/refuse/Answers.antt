use Rattle.coap_server.proofs.Calls.FeedIsACall.{seen_step}
use Rattle.coap_server.proofs.Calls.WorkFalls.{closes, closes_if, if_ok, led_on, on_err, same_led, same_timed}
use Rattle.coap_server.proofs.server.Server.refuse.Goals as goal

pub invariant_of-self : goal.invariant_of-self
invariant_of-self g c =
    let kept = c.self.invariant in (
      closes_if c.refuse_parts.result (if_ok c.refuse_parts.result
          (λ refused f. let s = f c.args.word in led_on _ _ _ kept.0 s.5) c.refuse_parts.ensures.step)
          (on_err c.refuse_parts.result (λ e. same_led g.S.Store.content _ _ kept.0 e) c.refuse_parts.ensures.err),
      closes c.refuse_parts.result c.refuse_parts.ensures.timed
          (on_err c.refuse_parts.result (λ e. same_timed _ _ kept.1 e) c.refuse_parts.ensures.err),
    )

pub returns-clause-step : goal.returns-clause-step
returns-clause-step g c =
    if_ok c.refuse_parts.result (λ refused f. let s = f c.args.word in (
      s.0,
      s.1,
      s.2,
      s.3,
      s.4,
      seen_step g.S.Store.content _ _ _ _ c.self.view_is s.5,
    )) c.refuse_parts.ensures.step
