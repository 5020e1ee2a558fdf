use Rattle.std.proofs.Common.{refl, subst}
use Rattle.coap_client.proofs.Facts.EachCall.{led_client}
use Rattle.coap_client.specs.Led.{Led}
use Rattle.knifesilver.specs.ClientHeld.{IsClientIn}
use Rattle.knifesilver.proofs.client.turns.feed.Goals as goal

pub returns-in-Ok-clause-led : goal.returns-in-Ok-clause-led
returns-in-Ok-clause-led c = λ _ server sizes setup t led.
    let w = c.in-Ok.ensures.step in (
      _,
      (w.0, w.1, w.2, w.3, w.4, w.5, refl),
      led_client server sizes setup t _ _ _ (subst (IsClientIn (Led server sizes setup t)) c.in-Client.is led) w.6,
    )
