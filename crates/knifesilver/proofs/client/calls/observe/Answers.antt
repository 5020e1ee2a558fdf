use Rattle.std.proofs.Common.{refl, sym, subst, w32}
use Rattle.std.proofs.Math.Facts.{to_z-of_z}
use Rattle.coap_client.proofs.Facts.EachCall.{led_client}
use Rattle.coap_client.specs.Led.{Led}
use Rattle.coap_client.specs.Object.Shown.{number_of}
use Rattle.knifesilver.specs.Answers.{IsAnswered}
use Rattle.knifesilver.specs.ClientCalls.{TakenAnswers}
use Rattle.knifesilver.specs.ClientHeld.{IsClientIn}
use Rattle.knifesilver.proofs.client.calls.observe.Goals as goal

pub returns-in-Client-clause-led : goal.returns-in-Client-clause-led
returns-in-Client-clause-led c = λ answered server sizes setup t led.
    let same = to_z-of_z {w = w32} {z = c.taken.result} (record { sfits = c.taken.type_inv }) in
    let how = c.taken.ensures.answered (subst IsAnswered same answered) in
    let w = led_client server sizes setup t _ _ _ (subst (IsClientIn (Led server sizes setup t)) c.in-Client.is led)
    (c.observe.ensures.step how.0) in (
      _,
      (
        number_of c.observe.result,
        subst (λ n. TakenAnswers n c.taken.new.id (number_of c.observe.result)) (sym same) how.1,
        refl,
      ),
      w,
    )
