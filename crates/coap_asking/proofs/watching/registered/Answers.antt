use Rattle.coap_client.specs.Trace.{Observes as observes}
use Rattle.coap_waits.proofs.Facts.{own_call, runs_by, runs_on}
use Rattle.coap_asking.proofs.watching.registered.Goals as goal

pub returns-in-Ok-clause-over : goal.returns-in-Ok-clause-over
returns-in-Ok-clause-over g c =
    let link = g.L.Link in
    runs_on link.sends link.receives link.fault_count c.args.word _ _ _ _ _ c.awaited.result
    (own_call _ _ (observes c.args.heard.now.last.0 c.args.watching.now.path.now _) tt c.in_ok-id.ensures.step)
    c.awaited.ensures.over

pub returns-in-Err-clause-over : goal.returns-in-Err-clause-over
returns-in-Err-clause-over g c =
    let link = g.L.Link in
    runs_by link.sends link.receives link.fault_count c.args.word _ _ _
    (own_call _ _ (observes c.args.heard.now.last.0 c.args.watching.now.path.now _) tt c.in_ok-id.ensures.step)
