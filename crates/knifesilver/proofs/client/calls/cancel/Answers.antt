use Rattle.std.proofs.Common.{◌∙◌, refl, subst, w32}
use Rattle.std.proofs.Math.Facts.{to_z-of_z}
use Rattle.coap_client.proofs.Facts.EachCall.{led_client}
use Rattle.coap_client.specs.Led.{Led}
use Rattle.knifesilver.specs.ClientHeld.{IsClientIn}
use Rattle.knifesilver.proofs.client.calls.cancel.Goals as goal

pub returns-in-Ok-clause-led : goal.returns-in-Ok-clause-led
returns-in-Ok-clause-led c = λ _ server sizes setup t led.
    let w = led_client server sizes setup t _ _ _ (subst (IsClientIn (Led server sizes setup t)) c.in-Client.is led)
    c.in-Ok.ensures.step in
    (_, (_, refl, refl), w)

pub returns-in-Err-clause-led : goal.returns-in-Err-clause-led
returns-in-Err-clause-led c = λ _ server sizes setup t led.
    let w = led_client server sizes setup t _ _ _ (subst (IsClientIn (Led server sizes setup t)) c.in-Client.is led)
    c.in-Err.ensures.step in
    let same = to_z-of_z {w = w32} {z = c.cancel_number.result} (record { sfits = c.cancel_number.type_inv }) in
    (_, (_, same ∙ c.cancel_number.ensures, refl), w)
