use Rattle.std.proofs.Common.{refl, sym, subst, w32}
use Rattle.std.proofs.Math.Facts.{to_z-of_z}
use Rattle.coap_server.proofs.Facts.EachCall.{led_further}
use Rattle.coap_server.specs.Led.{Led}
use Rattle.knifesilver.specs.ServerCalls.{RemoveAnswers}
use Rattle.knifesilver.specs.ServerHeld.{IsServerIn}
use Rattle.knifesilver.proofs.server.local.remove.Goals as goal

pub returns-in-Ok-clause-led : goal.returns-in-Ok-clause-led
returns-in-Ok-clause-led c = λ _ limits szx setup t led.
    let same = to_z-of_z {w = w32} {z = c.removed.result} (record { sfits = c.removed.type_inv }) in
    let told = subst (λ n. RemoveAnswers n c.in-Ok.done) (sym same) c.removed.ensures.told in
    let w = led_further limits szx setup t _ _ _ (subst (IsServerIn (Led limits szx setup t)) c.in-Server.is led)
    c.in-Ok.ensures.step in
    (_, (_, _, told, refl), w)
