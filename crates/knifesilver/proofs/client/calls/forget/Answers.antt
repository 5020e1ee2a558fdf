use Rattle.std.proofs.Common.{refl, sym, ap, subst}
use Rattle.coap_client.proofs.Facts.EachCall.{led_client}
use Rattle.coap_client.specs.Led.{Led}
use Rattle.knifesilver.specs.Answers.{told}
use Rattle.knifesilver.specs.ClientHeld.{IsClientIn}
use Rattle.knifesilver.proofs.client.calls.forget.Goals as goal

pub returns-then-forget-clause-led : goal.returns-then-forget-clause-led
returns-then-forget-clause-led c = λ _ server sizes setup t led.
    let w = c.forget.ensures.step in (
      _,
      (w.0, _, ap told (sym c.if-forget.true), refl),
      led_client server sizes setup t _ _ _ (subst (IsClientIn (Led server sizes setup t)) c.in-Client.is led) w.1,
    )

pub returns-else-forget-clause-led : goal.returns-else-forget-clause-led
returns-else-forget-clause-led c = λ _ server sizes setup t led.
    let w = c.forget.ensures.step in (
      _,
      (w.0, _, ap told (sym c.if-forget.false), refl),
      led_client server sizes setup t _ _ _ (subst (IsClientIn (Led server sizes setup t)) c.in-Client.is led) w.1,
    )
