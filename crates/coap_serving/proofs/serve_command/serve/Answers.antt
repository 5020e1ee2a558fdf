use Rattle.std.proofs.Common.{IfOk, Option, subst, sym}
use Rattle.coap_arguments.specs.declared.orders.Journal.{Journal}
use Rattle.coap_serving.specs.Kept.{IsServedAsSaid}
use Rattle.coap_serving.proofs.ServedCalls.{as_said}
use Rattle.coap_serving.proofs.serve_command.serve.Goals as goal

pub returns-in-Some : goal.returns-in-Some
returns-in-Some g c =
    let old = g.O.Write.contents c.args.out.now in
    let new = g.O.Write.contents c.serve_on_journal.new.out in
    subst (λ (j : Option Journal). IfOk c.serve_on_journal.result
    (IsServedAsSaid old new c.args.count c.args.options.now c.args.script j)) (sym c.in-Some.is)
    c.serve_on_journal.ensures

pub returns-in-None : goal.returns-in-None
returns-in-None g c =
    let old = g.O.Write.contents c.args.out.now in
    let new = g.O.Write.contents c.serve_script.new.out in
    subst (λ (j : Option Journal). IfOk c.serve_script.result
    (IsServedAsSaid old new c.args.count c.args.options.now c.args.script j)) (sym c.in-None.is)
    (as_said _ _ old new c.args.count c.args.options.now c.args.script c.serve_script.result c.serve_script.ensures)
