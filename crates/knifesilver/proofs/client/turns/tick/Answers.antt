use Rattle.std.proofs.Common.{refl, sym, ap, subst}
use Rattle.coap_client.proofs.Facts.EachCall.{led_client}
use Rattle.coap_client.specs.Led.{Led}
use Rattle.knifesilver.specs.Answers.{told}
use Rattle.knifesilver.specs.ClientHeld.{IsClientIn}
use Rattle.knifesilver.proofs.client.turns.tick.Goals as goal

pub returns-in-Ok-true-clause-led : goal.returns-in-Ok-true-clause-led
returns-in-Ok-true-clause-led c = λ _ server sizes setup t led.
    let w = c.in-Ok-true.ensures.step in (
      _,
      (w.0, w.1, w.2, w.3, w.4, _, ap told (sym c.in-Ok-true.field-0-test), refl),
      led_client server sizes setup t _ _ _ (subst (IsClientIn (Led server sizes setup t)) c.in-Client.is led) w.5,
    )

pub returns-in-Ok-false-clause-led : goal.returns-in-Ok-false-clause-led
returns-in-Ok-false-clause-led c = λ _ server sizes setup t led.
    let w = c.in-Ok-false.ensures.step in (
      _,
      (w.0, w.1, w.2, w.3, w.4, _, ap told (sym c.in-Ok-false.field-0-test), refl),
      led_client server sizes setup t _ _ _ (subst (IsClientIn (Led server sizes setup t)) c.in-Client.is led) w.5,
    )
