use Rattle.std.proofs.Common.{refl, subst}
use Rattle.coap_server.proofs.Facts.EachCall.{led_further}
use Rattle.coap_server.specs.Led.{Led}
use Rattle.knifesilver.specs.ServerHeld.{IsServerIn}
use Rattle.knifesilver.proofs.server.local.set_delay.Goals as goal

pub returns-in-Ok-clause-led : goal.returns-in-Ok-clause-led
returns-in-Ok-clause-led c = λ _ limits szx setup t led.
    let w = led_further limits szx setup t _ _ _ (subst (IsServerIn (Led limits szx setup t)) c.in-Server.is led)
    (c.in-Ok.ensures.step (λ e. cc)) in
    (_, (_, refl, refl), w)

pub returns-in-Err-Full-clause-led : goal.returns-in-Err-Full-clause-led
returns-in-Err-Full-clause-led c = λ _ limits szx setup t led.
    let w = led_further limits szx setup t _ _ _ (subst (IsServerIn (Led limits szx setup t)) c.in-Server.is led)
    (c.in-Err-Full.ensures.step (λ e. cc)) in
    (_, (_, refl, refl), w)
