use Rattle.coap_wires.specs.Words.{IsDrawnWord, IsWord}
use Rattle.coap_asking.proofs.AskedTasks.{asked_task}
use Rattle.coap_asking.proofs.asking.ask.Goals as goal

pub returns-clause-asked : goal.returns-clause-asked
returns-clause-asked g c =
    asked_task (IsWord c.args.options.now.word) _ _ c.args.server c.args.path.now c.args.what c.args.options.now
    c.in_ok-word.word c.in_ok-task.task c.ask_at.result c.in_ok-word.ensures.word c.in_ok-task.ensures c.ask_at.ensures

pub returns-clause-drawn : goal.returns-clause-drawn
returns-clause-drawn g c =
    asked_task (IsDrawnWord (g.R.Draws.draws c.args.rt.now) c.args.options.now.word) _ _ c.args.server c.args.path.now
    c.args.what c.args.options.now c.in_ok-word.word c.in_ok-task.task c.ask_at.result c.in_ok-word.ensures.drawn
    c.in_ok-task.ensures c.ask_at.ensures
