use Rattle.std.proofs.Common.{refl, sym, subst, w32}
use Rattle.std.proofs.Math.Facts.{to_z-of_z}
use Rattle.coap_server.proofs.Facts.EachCall.{led_further}
use Rattle.knifesilver.specs.Outgoing.{OutAnswers}
use Rattle.knifesilver.proofs.server.out.next_of.Goals as goal

pub returns-in-Ok-clause-led : goal.returns-in-Ok-clause-led
returns-in-Ok-clause-led c = λ _ limits szx setup t led.
    let give = c.give in
    let same = to_z-of_z {w = w32} {z = give.result} (record { sfits = give.type_inv }) in
    let told = subst (λ n. OutAnswers n give.new.to give.new.room give.new.len c.in-Ok.next) (sym same) give.ensures.told in
    (_, (_, told, refl), led_further limits szx setup t _ _ _ led c.in-Ok.ensures.step)
