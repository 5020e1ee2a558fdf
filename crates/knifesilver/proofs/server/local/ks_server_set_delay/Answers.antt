use Rattle.std.proofs.Common.{w32, subst, Some}
use Rattle.std.proofs.Math.Facts.{to_z-of_z}
use Rattle.coap_journal.specs.Input.{Delay}
use Rattle.knifesilver.specs.Answers.{IsAnswered}
use Rattle.coap_paths.specs.PathTexts.{spelled}
use Rattle.knifesilver.specs.ServerCalls.{IsDelay}
use Rattle.knifesilver.specs.ServerHeld.{IsNoted, Made}
use Rattle.knifesilver.proofs.Carried.{carried}
use Rattle.knifesilver.proofs.server.local.ks_server_set_delay.Goals as goal

pub returns-clause-led : goal.returns-clause-led
returns-clause-led c =
    let given = c.args in
    let delay = c.set_delay-answer in
    carried (λ answer old new. IsAnswered answer → Made (IsDelay (spelled given.path.now) given.ms answer) old new)
    (to_z-of_z {w = w32} {z = delay.result} (record { sfits = delay.type_inv }))
    c.in-Some.ensures.taken c.as_mut.ensures.value c.put.ensures
    (subst (λ path. IsAnswered delay.result → Made (IsDelay path given.ms delay.result)
    (Some c.as_mut.result.now) (Some delay.new.held)) c.in-Ok.ensures.spelled delay.ensures.led)

pub returns-clause-noted : goal.returns-clause-noted
returns-clause-noted c =
    let given = c.args in
    let done = c.set_delay-answer in
    carried (λ answer old new. IsAnswered answer → IsNoted (Delay (spelled given.path.now) given.ms) 0 old new)
    (to_z-of_z {w = w32} {z = done.result} (record { sfits = done.type_inv }))
    c.in-Some.ensures.taken c.as_mut.ensures.value c.put.ensures
    (subst (λ path. IsAnswered done.result → IsNoted (Delay path given.ms) 0
    (Some c.as_mut.result.now) (Some done.new.held)) c.in-Ok.ensures.spelled done.ensures.noted)
