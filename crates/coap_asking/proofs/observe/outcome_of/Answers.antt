use Rattle.std.proofs.Common.{[]}
use Rattle.coap_client.specs.Led.{Led}
use Rattle.coap_client.specs.Trace.{Observes as observes}
use Rattle.coap_waits.proofs.Facts.{own_call, runs_by, runs_on}
use Rattle.coap_asking.proofs.ObservedCalls.{refused_observes, taken_observes}
use Rattle.coap_asking.proofs.observe.outcome_of.Goals as goal

pub returns-in-Ok-clause-becomes : goal.returns-in-Ok-clause-becomes
returns-in-Ok-clause-becomes g c =
    taken_observes (λ server sizes w. Led server sizes w [] c.args.client.now) c.args.options.now c.in_ok-begin.begin.0
    c.args.path.now _ c.in-Ok.id _ c.awaited.result c.in-Ok.is
    (λ server sizes w led. c.in_ok-id.ensures.led server sizes w
    [] led)
    c.awaited.ensures.comes

pub returns-in-Err-clause-becomes : goal.returns-in-Err-clause-becomes
returns-in-Err-clause-becomes g c = λ server sizes w led.
    refused_observes server sizes w c.args.options.now c.in_ok-begin.begin.0 c.args.path.now _ _ _ c.in-Err.is
    (c.in_ok-id.ensures.led server sizes w [] led)

pub returns-in-Ok-clause-over : goal.returns-in-Ok-clause-over
returns-in-Ok-clause-over g c =
    let link = g.L.Link in
    runs_on link.sends link.receives link.fault_count c.args.word _ _ _ _ _ c.awaited.result
    (own_call _ _ (observes c.in_ok-begin.begin.0 c.args.path.now _) tt c.in_ok-id.ensures.step) c.awaited.ensures.over

pub returns-in-Err-clause-over : goal.returns-in-Err-clause-over
returns-in-Err-clause-over g c =
    let link = g.L.Link in
    runs_by link.sends link.receives link.fault_count c.args.word _ _ _
    (own_call _ _ (observes c.in_ok-begin.begin.0 c.args.path.now _) tt c.in_ok-id.ensures.step)
