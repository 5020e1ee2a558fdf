use Rattle.std.proofs.Common.{◌∙◌, ap, refl, sym, subst}
use Rattle.coap_server.proofs.Facts.EachCall.{led_further}
use Rattle.coap_server.specs.Led.{Led}
use Rattle.knifesilver.specs.Answers.{told}
use Rattle.knifesilver.specs.ServerHeld.{IsServerIn}
use Rattle.knifesilver.proofs.server.refusing.refuse.Goals as goal

pub returns-in-Ok-true-clause-led : goal.returns-in-Ok-true-clause-led
returns-in-Ok-true-clause-led c = λ _ limits szx setup t led.
    let w = c.in-Ok-true.ensures.step in (
      _,
      (w.0, w.1, w.2, w.3, ap told (sym c.in-Ok-true.field-0-test ∙ w.4), refl),
      led_further limits szx setup t _ _ _ (subst (IsServerIn (Led limits szx setup t)) c.in-Server.is led) w.5,
    )

pub returns-in-Ok-false-clause-led : goal.returns-in-Ok-false-clause-led
returns-in-Ok-false-clause-led c = λ _ limits szx setup t led.
    let w = c.in-Ok-false.ensures.step in (
      _,
      (w.0, w.1, w.2, w.3, ap told (sym c.in-Ok-false.field-0-test ∙ w.4), refl),
      led_further limits szx setup t _ _ _ (subst (IsServerIn (Led limits szx setup t)) c.in-Server.is led) w.5,
    )
