use Rattle.std.proofs.Common.{Ok, refl, ap, ◌∙◌, arith}
use Rattle.coap_run.specs.Run.Log.{lines_put}
use Rattle.coap_run.specs.Run.Telling.{change_told}
use Rattle.coap_run.proofs.Recording.Serving.{server_removed, server_not_removed}
use Rattle.coap_run.proofs.running.inputs.remove_server.Goals as goal

pub returns-in-Ok-false : goal.returns-in-Ok-false
returns-in-Ok-false g c = λ addresses sender.
    server_not_removed addresses g.S.Store.content sender c.args.at.0 c.args.path.now c.remove-answer.result
    c.args.end.now _
    c.args.log.now _
    (λ e. let a = c.in-Ok-false.is in let b = c.in-Ok-false.field-0-test in cc (a, b, e)) c.remove-answer.ensures.step
    c.in_ok-note.ensures refl

pub returns-in-Err : goal.returns-in-Err
returns-in-Err g c = λ addresses sender.
    server_not_removed addresses g.S.Store.content sender c.args.at.0 c.args.path.now c.remove-answer.result
    c.args.end.now _
    c.args.log.now _
    (λ e. let a = c.in-Err.is in cc (a, e)) c.remove-answer.ensures.step c.in_ok-note.ensures refl

pub returns : goal.returns
returns g c = λ addresses sender.
    server_removed addresses g.S.Store.content sender c.args.at.0 c.args.path.now c.saturating_add-version.result
    c.remove-answer.result c.args.end.now
    (record { server = c.remove-answer.new.self; version = c.args.end.now.version }) _ c.args.log.now c.note.new.self _
    (c.in-Ok-true.is ∙ ap Ok c.in-Ok-true.field-0-test)
    c.remove-answer.ensures.step c.in_ok-note.ensures refl refl
    (λ small. omega (arith, c.saturating_add-version.ensures, small))
    (c.in_ok-change.ensures ∙ ap (λ h. lines_put
    (change_told c.args.path.now c.saturating_add-version.result h) c.note.new.self) c.get.ensures.step.right)
