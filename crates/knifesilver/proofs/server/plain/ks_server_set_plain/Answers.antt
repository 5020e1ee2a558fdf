use Rattle.std.proofs.Common.{w32, subst, Some}
use Rattle.std.proofs.Math.Facts.{to_z-of_z}
use Rattle.coap_journal.specs.Input.{Plain}
use Rattle.knifesilver.specs.Answers.{IsAnswered}
use Rattle.coap_paths.specs.PathTexts.{spelled}
use Rattle.knifesilver.specs.ServerCalls.{IsPlain}
use Rattle.knifesilver.specs.ServerHeld.{IsNoted, Made}
use Rattle.knifesilver.proofs.Carried.{carried}
use Rattle.knifesilver.proofs.server.plain.ks_server_set_plain.Goals as goal

pub returns-clause-led : goal.returns-clause-led
returns-clause-led c =
    let given = c.args in
    let plain = c.set_plain-answer in
    carried (λ answer old new. IsAnswered answer → Made (IsPlain (spelled given.path.now) answer) old new)
    (to_z-of_z {w = w32} {z = plain.result} (record { sfits = plain.type_inv }))
    c.in-Some.ensures.taken c.as_mut.ensures.value c.put.ensures
    (subst (λ path. IsAnswered plain.result → Made (IsPlain path plain.result)
    (Some c.as_mut.result.now) (Some plain.new.held)) c.in-Ok.ensures.spelled plain.ensures.led)

pub returns-clause-noted : goal.returns-clause-noted
returns-clause-noted c =
    let given = c.args in
    let done = c.set_plain-answer in
    carried (λ answer old new. IsAnswered answer → IsNoted (Plain (spelled given.path.now)) 0 old new)
    (to_z-of_z {w = w32} {z = done.result} (record { sfits = done.type_inv }))
    c.in-Some.ensures.taken c.as_mut.ensures.value c.put.ensures
    (subst (λ path. IsAnswered done.result → IsNoted (Plain path) 0
    (Some c.as_mut.result.now) (Some done.new.held)) c.in-Ok.ensures.spelled done.ensures.noted)
