use Rattle.std.proofs.Common.{◌≡◌, ◌∷◌, [], refl, sym, subst, w32}
use Rattle.std.proofs.Math.Facts.{to_z-of_z}
use Rattle.coap_server.proofs.Facts.EachCall.{led_further}
use Rattle.coap_server.specs.Led.{Led}
use Rattle.coap_server.specs.Object.Shown.{applied_as}
use Rattle.knifesilver.specs.Answers.{IsAnswered}
use Rattle.knifesilver.specs.Applied.{AppliedAnswers}
use Rattle.knifesilver.specs.ServerHeld.{IsServerIn}
use Rattle.knifesilver.specs.declared.answers.TheConstants.{SMALL_ROOM}
use Rattle.knifesilver.proofs.server.out.applied.Goals as goal

pub returns-in-Some-clause-led : goal.returns-in-Some-clause-led
returns-in-Some-clause-led c = λ answered limits szx setup t led.
    let tell = c.tell in
    let done = applied_as c.in-Some.applied.now ∷ [] in
    let same = to_z-of_z {w = w32} {z = tell.result} (record { sfits = tell.type_inv }) in
    let told = subst (λ n. AppliedAnswers n tell.new.told tell.new.room done) (sym same) (tell.ensures.told (subst IsAnswered same answered)) in
    let w = led_further limits szx setup t _ _ _ (subst (IsServerIn (Led limits szx setup t)) c.in-Server.is led)
    c.in-Some.ensures.step in
    (_, (done, told, refl), subst (IsServerIn (Led limits szx setup _)) (sym c.in-Server.is) w)

pub returns-in-Some-clause-long : goal.returns-in-Some-clause-long
returns-in-Some-clause-long c = λ small limits szx setup t led.
    let tell = c.tell in
    let done = applied_as c.in-Some.applied.now ∷ [] in
    let same = to_z-of_z {w = w32} {z = tell.result} (record { sfits = tell.type_inv }) in
    let long = tell.ensures.long (subst (λ n. n ≡ SMALL_ROOM) same small) in
    let w = led_further limits szx setup t _ _ _ (subst (IsServerIn (Led limits szx setup t)) c.in-Server.is led)
    c.in-Some.ensures.step in
    (_, (done, long, refl), subst (IsServerIn (Led limits szx setup _)) (sym c.in-Server.is) w)

pub returns-in-None-clause-led : goal.returns-in-None-clause-led
returns-in-None-clause-led c = λ _ limits szx setup t led.
    let w = led_further limits szx setup t _ _ _ (subst (IsServerIn (Led limits szx setup t)) c.in-Server.is led)
    c.in-None.ensures.step in
    (_, ([], refl, refl), subst (IsServerIn (Led limits szx setup _)) (sym c.in-Server.is) w)
