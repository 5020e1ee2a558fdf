use Rattle.std.proofs.Common.{◌∙◌, ap}
use Rattle.coap_arguments.specs.declared.orders.What.TheVariants.{Get}
use Rattle.coap_wires.specs.Words.{IsDrawnWord, IsWord}
use Rattle.coap_asking.specs.Asked.{asked_request}
use Rattle.coap_asking.specs.declared.asking.Task.TheVariants.{Discovery}
use Rattle.coap_asking.proofs.AskedTasks.{discovered_task}
use Rattle.coap_asking.proofs.asking.discover.Goals as goal

pub returns-clause-asked : goal.returns-clause-asked
returns-clause-asked g c =
    discovered_task (IsWord c.args.options.now.word) _ _ c.args.server c.args.options.now c.in_ok-word.word
    (Discovery c.in_ok-request.request) c.ask_at.result c.in_ok-word.ensures.word (
      _,
      c.in_ok-path.ensures,
      c.in_ok-request.ensures ∙ ap (asked_request Get c.in_ok-path.path c.args.options.now) c.new.ensures,
    )
    c.ask_at.ensures

pub returns-clause-drawn : goal.returns-clause-drawn
returns-clause-drawn g c =
    discovered_task (IsDrawnWord (g.R.Draws.draws c.args.rt.now) c.args.options.now.word) _ _ c.args.server
    c.args.options.now c.in_ok-word.word (Discovery c.in_ok-request.request) c.ask_at.result
    c.in_ok-word.ensures.drawn (
      _,
      c.in_ok-path.ensures,
      c.in_ok-request.ensures ∙ ap (asked_request Get c.in_ok-path.path c.args.options.now) c.new.ensures,
    )
    c.ask_at.ensures
