use Rattle.std.proofs.Common.{IfOk, subst, sym}
use Rattle.coap_client.specs.Object.CallShown.{shown_request}
use Rattle.coap_waits.specs.JsonLines.{Tells}
use Rattle.coap_asking.specs.Tasks.{DoesAt}
use Rattle.coap_waits.specs.Terms.{setup_of, sizes_of}
use Rattle.coap_asking.specs.declared.asking.Task.{Task}
use Rattle.coap_waits.specs.declared.connection.Terms.{Terms}
use Rattle.coap_asking.proofs.asking.do_once.Goals as goal

pub returns-in-Request : goal.returns-in-Request
returns-in-Request g c =
    let server = c.args.server in
    let asked = c.args.asked in
    let old = g.O.Write.contents c.args.out.now in
    let new = g.O.Write.contents c.ask_over.new.out in
    subst (λ (t : Task). IfOk c.ask_over.result (DoesAt old new server asked.options.now asked.word t))
    (sym c.in-Request.is)
    (subst (λ (t : Terms). IfOk c.ask_over.result
    (Tells t.json old new server (sizes_of t) (setup_of t) t.give_up (shown_request c.in-Request.request)))
    c.of-terms.ensures c.ask_over.ensures.tells)
