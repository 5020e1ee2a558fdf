use Rattle.std.proofs.Common.{◌∙◌, ap, w32, subst, pos, Some}
use Rattle.std.proofs.Math.Facts.{to_z-of_z}
use Rattle.coap_journal.specs.Input.{Set}
use Rattle.knifesilver.specs.Answers.{IsAnswered}
use Rattle.knifesilver.specs.Formats.{format_in}
use Rattle.coap_paths.specs.PathTexts.{spelled}
use Rattle.knifesilver.specs.ServerCalls.{IsSet}
use Rattle.knifesilver.specs.ServerHeld.{IsNoted, Made}
use Rattle.knifesilver.proofs.Carried.{carried}
use Rattle.knifesilver.proofs.server.local.ks_server_set.Goals as goal

pub returns-clause-led : goal.returns-clause-led
returns-clause-led c =
    let given = c.args in
    let set = c.set-answer in
    carried (λ answer old new. IsAnswered answer
    → Made (IsSet given.now (spelled given.path.now) (format_in given.format) given.body.now (pos 0) answer set.new.version)
    old new)
    (to_z-of_z {w = w32} {z = set.result} (record { sfits = set.type_inv }))
    c.in-Some.ensures.taken c.as_mut.ensures.value c.put.ensures
    (subst (λ path. IsAnswered set.result
    → Made (IsSet given.now path (format_in given.format) given.body.now (pos 0) set.result set.new.version)
    (Some c.as_mut.result.now) (Some set.new.held)) c.in-Ok.ensures.spelled
    (subst (λ format. IsAnswered set.result
    → Made (IsSet given.now c.in-Ok.path format given.body.now (pos 0) set.result set.new.version)
    (Some c.as_mut.result.now) (Some set.new.held)) (c.format_of.ensures ∙ ap format_in (to_z-of_z {w = w32} {z = given.format} c.ranges.format)) set.ensures.led))

pub returns-clause-noted : goal.returns-clause-noted
returns-clause-noted c =
    let given = c.args in
    let done = c.set-answer in
    carried (λ answer old new. IsAnswered answer → IsNoted (Set given.now (spelled given.path.now) (format_in given.format) given.body.now) given.now old new)
    (to_z-of_z {w = w32} {z = done.result} (record { sfits = done.type_inv }))
    c.in-Some.ensures.taken c.as_mut.ensures.value c.put.ensures
    (subst (λ path. IsAnswered done.result → IsNoted (Set given.now path (format_in given.format) given.body.now) given.now
    (Some c.as_mut.result.now) (Some done.new.held)) c.in-Ok.ensures.spelled
    (subst (λ format. IsAnswered done.result → IsNoted (Set given.now c.in-Ok.path format given.body.now) given.now
    (Some c.as_mut.result.now) (Some done.new.held)) (c.format_of.ensures ∙ ap format_in (to_z-of_z {w = w32} {z = given.format} c.ranges.format)) done.ensures.noted))
