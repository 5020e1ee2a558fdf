use Rattle.std.proofs.Common.{[]}
use Rattle.coap_client.specs.Led.{Led}
use Rattle.coap_client.specs.Object.CallShown.{shown_request}
use Rattle.coap_client.specs.Trace.{Calls}
use Rattle.coap_waits.proofs.LinkedTurns.{own_call, runs_by, runs_on}
use Rattle.coap_waits.proofs.WhatBecomes.{refused_becomes, taken_becomes}
use Rattle.coap_waits.proofs.ask.outcome_of.Goals as goal

pub returns-in-Ok-clause-becomes : goal.returns-in-Ok-clause-becomes
returns-in-Ok-clause-becomes g c =
    taken_becomes (λ server sizes w. Led server sizes w [] c.args.client.now) c.in_ok-begin.begin.0
    (shown_request c.args.request) c.args.terms.now.give_up _ c.in-Ok.id _ c.awaited.result c.in-Ok.is
    (λ server sizes w led. c.in_ok-id.ensures.led server sizes w [] led) c.awaited.ensures.comes

pub returns-in-Err-clause-becomes : goal.returns-in-Err-clause-becomes
returns-in-Err-clause-becomes g c = λ server sizes w led.
    refused_becomes server sizes w _ _ c.args.terms.now.give_up _ _ _ c.in-Err.is
    (c.in_ok-id.ensures.led server sizes w [] led)

pub returns-in-Ok-clause-over : goal.returns-in-Ok-clause-over
returns-in-Ok-clause-over g c =
    let link = g.L.Link in
    runs_on link.sends link.receives link.fault_count c.args.terms.now.word _ _ _ _ _ c.awaited.result
    (own_call _ _ (Calls c.in_ok-begin.begin.0 (shown_request c.args.request) _) tt c.in_ok-id.ensures.step)
    c.awaited.ensures.over

pub returns-in-Err-clause-over : goal.returns-in-Err-clause-over
returns-in-Err-clause-over g c =
    let link = g.L.Link in
    runs_by link.sends link.receives link.fault_count c.args.terms.now.word _ _ _
    (own_call _ _ (Calls c.in_ok-begin.begin.0 (shown_request c.args.request) _) tt c.in_ok-id.ensures.step)
