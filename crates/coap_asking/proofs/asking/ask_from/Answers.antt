use Rattle.std.proofs.Common.{IfOk, subst, sym}
use Rattle.coap_asking.specs.Tasks.{Does}
use Rattle.coap_asking.specs.declared.asking.Task.{Task}
use Rattle.coap_asking.proofs.AskedTasks.{done_there}
use Rattle.coap_asking.proofs.asking.ask_from.Goals as goal

pub returns-in-Watch : goal.returns-in-Watch
returns-in-Watch g c =
    let asked = c.args.asked in
    subst (λ (t : Task). IfOk c.watch_over.result
    (Does (g.O.Write.contents c.args.out.now) (g.O.Write.contents c.watch_over.new.out)
    (g.S.LinkSource.reaches c.args.source.now) asked.options.now asked.word t))
    (sym c.in-Watch.is) c.watch_over.ensures

pub returns : goal.returns
returns g c =
    done_there _ _ (g.S.LinkSource.reaches c.args.source.now) c.in_ok-link.server _ _ _ _ c.in_ok-link.ensures
    c.ask_on.ensures
