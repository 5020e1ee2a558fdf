use Rattle.std.proofs.Common.{◌∙◌, ap, w32, subst, Some}
use Rattle.std.proofs.Math.Facts.{to_z-of_z}
use Rattle.knifesilver.specs.Answers.{IsAnswered}
use Rattle.knifesilver.specs.Formats.{format_in}
use Rattle.coap_paths.specs.PathTexts.{spelled}
use Rattle.knifesilver.specs.ServerCalls.{Updates}
use Rattle.knifesilver.proofs.Carried.{carried}
use Rattle.knifesilver.proofs.server.local.ks_server_update.Goals as goal

pub returns-clause-led : goal.returns-clause-led
returns-clause-led c =
    let given = c.args in
    let update = c.update-answer in
    carried (λ answer old new. IsAnswered answer
    → Updates given.now (spelled given.path.now) (format_in given.format) given.body.now answer update.new.version old new)
    (to_z-of_z {w = w32} {z = update.result} (record { sfits = update.type_inv }))
    c.in-Some.ensures.taken c.as_mut.ensures.value c.put.ensures
    (subst (λ path. IsAnswered update.result
    → Updates given.now path (format_in given.format) given.body.now update.result update.new.version
    (Some c.as_mut.result.now) (Some update.new.held)) c.in-Ok.ensures.spelled
    (subst (λ format. IsAnswered update.result
    → Updates given.now c.in-Ok.path format given.body.now update.result update.new.version
    (Some c.as_mut.result.now) (Some update.new.held)) (c.format_of.ensures ∙ ap format_in (to_z-of_z {w = w32} {z = given.format} c.ranges.format)) update.ensures.led))
