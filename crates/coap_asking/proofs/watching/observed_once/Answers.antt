use Rattle.std.proofs.Common.{[], subst}
use Rattle.coap_layer.specs.declared.setup.Setup.{Setup}
use Rattle.coap_client.specs.Led.{Led}
use Rattle.coap_waits.specs.Terms.{asked_terms, setup_of, sizes_of}
use Rattle.coap_waits.specs.declared.connection.Terms.{Terms}
use Rattle.coap_waits.proofs.Facts.{run_by}
use Rattle.coap_asking.proofs.watching.observed_once.Goals as goal

pub returns-clause-over : goal.returns-clause-over
returns-clause-over g c =
    let link = g.L.Link in
    let terms = asked_terms c.args.word c.args.watching.now.options.now in
    let client = c.fresh_client-client.result in
    run_by link.sends link.receives link.fault_count c.args.server (sizes_of terms) (setup_of terms) client _ _ _
    c.registered-left.result
    (subst (λ (t : Terms). Led c.args.server (sizes_of t) (setup_of t) [] client) c.of-terms.ensures
    (subst (λ (w : Setup). Led c.args.server (sizes_of c.of-terms.result) w [] client) c.setup.ensures
    c.fresh_client-client.ensures)) c.registered-left.ensures.over
