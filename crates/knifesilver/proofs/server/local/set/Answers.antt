use Rattle.std.proofs.Common.{◌∙◌, refl, subst, w32}
use Rattle.std.proofs.Math.Facts.{to_z-of_z}
use Rattle.coap_server.proofs.Facts.EachCall.{led_further}
use Rattle.coap_server.specs.Led.{Led}
use Rattle.knifesilver.specs.Answers.{IsAnswered}
use Rattle.knifesilver.specs.ServerHeld.{IsServerIn}
use Rattle.knifesilver.proofs.server.local.set.Goals as goal

pub returns-in-Ok-clause-led : goal.returns-in-Ok-clause-led
returns-in-Ok-clause-led c = λ _ limits szx setup t led.
    let w = led_further limits szx setup t _ _ _ (subst (IsServerIn (Led limits szx setup t)) c.in-Server.is led)
    (c.in-Ok.ensures.step (λ e. cc)) in
    (_, (_, _, (refl, refl), refl), w)

pub returns-in-Err-clause-led : goal.returns-in-Err-clause-led
returns-in-Err-clause-led c = λ answered limits szx setup t led.
    let same = to_z-of_z {w = w32} {z = c.refused.result} (record { sfits = c.refused.type_inv }) in
    let why = c.refused.ensures.answered (subst IsAnswered same answered) in
    let w = led_further limits szx setup t _ _ _ (subst (IsServerIn (Led limits szx setup t)) c.in-Server.is led)
    (c.in-Err.ensures.step (λ e. why.0 cc)) in
    (_, (_, _, same ∙ why.1, refl), w)
