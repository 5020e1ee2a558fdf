use Rattle.std.proofs.Common.{refl, subst}
use Rattle.coap_server.proofs.Facts.EachCall.{led_further}
use Rattle.coap_server.specs.Led.{Led}
use Rattle.knifesilver.specs.ServerHeld.{IsServerIn}
use Rattle.knifesilver.proofs.server.turns.feed.Goals as goal

pub returns-in-Ok-clause-led : goal.returns-in-Ok-clause-led
returns-in-Ok-clause-led c = λ _ limits szx setup t led.
    let w = c.in-Ok.ensures.step in (
      _,
      (w.0, w.1, w.2, w.3, refl),
      led_further limits szx setup t _ _ _ (subst (IsServerIn (Led limits szx setup t)) c.in-Server.is led) w.4,
    )
