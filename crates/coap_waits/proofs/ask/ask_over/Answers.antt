use Rattle.std.proofs.Common.{[], subst}
use Rattle.coap_layer.specs.declared.setup.Setup.{Setup}
use Rattle.coap_client.specs.Led.{Led}
use Rattle.coap_client.specs.Object.CallShown.{shown_request}
use Rattle.coap_waits.specs.JsonLines.{Tells}
use Rattle.coap_waits.specs.Terms.{setup_of, sizes_of}
use Rattle.coap_waits.proofs.LinkedTurns.{run_by}
use Rattle.coap_waits.proofs.WhatBecomes.{began}
use Rattle.coap_waits.proofs.ask.ask_over.Goals as goal

pub returns-clause-tells : goal.returns-clause-tells
returns-clause-tells g c =
    let terms = c.args.terms.now in
    let contents = g.O.Write.contents in
    began (λ server sizes w. Led server sizes w [] c.fresh_client-client.result)
    (λ server sizes w. Tells terms.json (contents c.args.out.now) (contents c.ask_and_tell-ended.new.out) server sizes w
    terms.give_up (shown_request c.args.request))
    c.ask_and_tell-ended.result c.args.server (sizes_of terms) (setup_of terms)
    (subst (λ (w : Setup). Led c.args.server (sizes_of terms) w [] c.fresh_client-client.result) c.setup.ensures
    c.fresh_client-client.ensures) c.ask_and_tell-ended.ensures.tells

pub returns-clause-over : goal.returns-clause-over
returns-clause-over g c =
    let link = g.L.Link in
    let terms = c.args.terms.now in
    run_by link.sends link.receives link.fault_count c.args.server (sizes_of terms) (setup_of terms) _ _ _ _
    c.ask_and_tell-ended.result
    (subst (λ (w : Setup). Led c.args.server (sizes_of terms) w [] c.fresh_client-client.result) c.setup.ensures
    c.fresh_client-client.ensures) c.ask_and_tell-ended.ensures.over
