use Rattle.std.proofs.Common.{[], subst}
use Rattle.coap_layer.specs.declared.setup.Setup.{Setup}
use Rattle.coap_client.specs.Led.{Led}
use Rattle.coap_arguments.specs.declared.orders.What.TheVariants.{Get}
use Rattle.coap_asking.specs.Asked.{asked_request}
use Rattle.coap_waits.specs.Terms.{asked_terms, setup_of, sizes_of}
use Rattle.coap_waits.specs.declared.connection.Terms.{Terms}
use Rattle.coap_waits.proofs.Facts.{run_by}
use Rattle.coap_asking.proofs.PolledCalls.{polled_by}
use Rattle.coap_asking.proofs.polling.poll_over.Goals as goal

pub returns-clause-polls : goal.returns-clause-polls
returns-clause-polls g c =
    let options = c.args.polling.now.options.now in
    let terms = asked_terms c.args.word options in
    let client = c.fresh_client-client.result in
    polled_by _ _ c.args.server (sizes_of terms) (setup_of terms)
    (asked_request Get c.args.polling.now.path.now options []) c.args.polling.now.every options client
    c.polled-ended.result
    (subst (λ (t : Terms). Led c.args.server (sizes_of t) (setup_of t) [] client) c.of-terms.ensures
    (subst (λ (w : Setup). Led c.args.server (sizes_of c.of-terms.result) w [] client) c.setup.ensures
    c.fresh_client-client.ensures)) c.polled-ended.ensures.polled

pub returns-clause-over : goal.returns-clause-over
returns-clause-over g c =
    let link = g.L.Link in
    let terms = asked_terms c.args.word c.args.polling.now.options.now in
    let client = c.fresh_client-client.result in
    run_by link.sends link.receives link.fault_count c.args.server (sizes_of terms) (setup_of terms) client _ _ _
    c.polled-ended.result
    (subst (λ (t : Terms). Led c.args.server (sizes_of t) (setup_of t) [] client) c.of-terms.ensures
    (subst (λ (w : Setup). Led c.args.server (sizes_of c.of-terms.result) w [] client) c.setup.ensures
    c.fresh_client-client.ensures)) c.polled-ended.ensures.over
