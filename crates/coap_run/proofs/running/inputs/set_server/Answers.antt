use Rattle.std.proofs.Common.{refl, ap, ◌∙◌}
use Rattle.coap_run.specs.Run.Log.{lines_put}
use Rattle.coap_run.specs.Run.Telling.{change_told}
use Rattle.coap_run.proofs.Recording.Serving.{server_set, server_not_set}
use Rattle.coap_run.proofs.running.inputs.set_server.Goals as goal

pub returns-in-Err-answer-clause-taken : goal.returns-in-Err-answer-clause-taken
returns-in-Err-answer-clause-taken g c = λ addresses sender.
    server_not_set addresses g.S.Store.content sender c.args.at.0 c.args.path.now c.args.format c.args.body.now
    c.in-Err-answer.field-0
    c.set-answer.result c.args.end.now _ c.args.log.now _ c.in-Err-answer.is
    (c.set-answer.ensures.step c.in-Ok.ensures.ok) c.in_ok-note.ensures
    refl

pub returns-clause-taken : goal.returns-clause-taken
returns-clause-taken g c = λ addresses sender.
    server_set addresses g.S.Store.content sender c.args.at.0 c.args.path.now c.args.format c.args.body.now
    c.in-Ok-answer.version
    c.set-answer.result c.args.end.now
    (record { server = c.set-answer.new.self; version = c.args.end.now.version }) _ c.args.log.now c.note.new.self _
    c.in-Ok-answer.is
    (c.set-answer.ensures.step c.in-Ok.ensures.ok) c.in_ok-note.ensures
    refl refl
    (c.in_ok-change.ensures ∙ ap (λ h. lines_put (change_told c.args.path.now c.in-Ok-answer.version h) c.note.new.self)
    c.get.ensures.step.right)
