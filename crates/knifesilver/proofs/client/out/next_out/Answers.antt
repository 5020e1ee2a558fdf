use Rattle.std.proofs.Common.{refl, sym, subst, w32}
use Rattle.std.proofs.Math.Facts.{to_z-of_z}
use Rattle.coap_client.proofs.Facts.EachCall.{led_client}
use Rattle.coap_client.specs.Led.{Led}
use Rattle.knifesilver.specs.ClientHeld.{IsClientIn}
use Rattle.knifesilver.specs.Outgoing.{OutAnswers}
use Rattle.knifesilver.proofs.client.out.next_out.Goals as goal

pub returns-else-room-lt-MAX_MESSAGE_LEN-clause-led : goal.returns-else-room-lt-MAX_MESSAGE_LEN-clause-led
returns-else-room-lt-MAX_MESSAGE_LEN-clause-led c = λ _ server sizes setup t led.
    let give = c.give in
    let same = to_z-of_z {w = w32} {z = give.result} (record { sfits = give.type_inv }) in
    let told = subst (λ n. OutAnswers n give.new.to give.new.room give.new.len c.next_out.result) (sym same) give.ensures.told in
    let w = led_client server sizes setup t _ _ _ (subst (IsClientIn (Led server sizes setup t)) c.in-Client.is led)
    c.next_out.ensures.step in
    (_, (_, told, refl), w)
