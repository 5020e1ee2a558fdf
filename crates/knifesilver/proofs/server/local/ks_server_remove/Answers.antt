use Rattle.std.proofs.Common.{w32, subst, Some}
use Rattle.std.proofs.Math.Facts.{to_z-of_z}
use Rattle.coap_journal.specs.Input.{Remove}
use Rattle.knifesilver.specs.Answers.{IsAnswered}
use Rattle.coap_paths.specs.PathTexts.{spelled}
use Rattle.knifesilver.specs.ServerCalls.{IsRemove}
use Rattle.knifesilver.specs.ServerHeld.{IsNoted, Made}
use Rattle.knifesilver.proofs.Carried.{carried}
use Rattle.knifesilver.proofs.server.local.ks_server_remove.Goals as goal

pub returns-clause-led : goal.returns-clause-led
returns-clause-led c =
    let given = c.args in
    let remove = c.remove-answer in
    carried (λ answer old new. IsAnswered answer → Made (IsRemove given.now (spelled given.path.now) answer) old new)
    (to_z-of_z {w = w32} {z = remove.result} (record { sfits = remove.type_inv }))
    c.in-Some.ensures.taken c.as_mut.ensures.value c.put.ensures
    (subst (λ path. IsAnswered remove.result → Made (IsRemove given.now path remove.result)
    (Some c.as_mut.result.now) (Some remove.new.held)) c.in-Ok.ensures.spelled remove.ensures.led)

pub returns-clause-noted : goal.returns-clause-noted
returns-clause-noted c =
    let given = c.args in
    let done = c.remove-answer in
    carried (λ answer old new. IsAnswered answer → IsNoted (Remove given.now (spelled given.path.now)) given.now old new)
    (to_z-of_z {w = w32} {z = done.result} (record { sfits = done.type_inv }))
    c.in-Some.ensures.taken c.as_mut.ensures.value c.put.ensures
    (subst (λ path. IsAnswered done.result → IsNoted (Remove given.now path) given.now
    (Some c.as_mut.result.now) (Some done.new.held)) c.in-Ok.ensures.spelled done.ensures.noted)
