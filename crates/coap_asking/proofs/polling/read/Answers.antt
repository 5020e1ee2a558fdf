use Rattle.std.proofs.Common.{◌∙◌, ap, []}
use Rattle.coap_arguments.specs.declared.orders.What.TheVariants.{Get}
use Rattle.coap_asking.specs.Asked.{asked_request}
use Rattle.coap_client.specs.Trace.{Calls}
use Rattle.coap_waits.specs.Linked.{called, here}
use Rattle.coap_waits.proofs.Facts.{goes_on, own_call}
use Rattle.coap_asking.proofs.PolledCalls.{reads_ended, refused_ended}
use Rattle.coap_asking.proofs.polling.read.Goals as goal

pub returns-in-Ok-clause-reads : goal.returns-in-Ok-clause-reads
returns-in-Ok-clause-reads g c =
    let options = c.args.polling.now.options.now in
    let path = c.args.polling.now.path.now in
    reads_ended options.give_up _ (asked_request Get path options []) c.args.begin.0 _ c.in-Ok.id c.args.client.now _ _
    c.taken.result (c.in_ok-request.ensures ∙ ap (asked_request Get path options) c.new.ensures) c.in-Ok.is
    c.in_ok-id.ensures.step c.taken.ensures.comes

pub returns-in-Err-clause-reads : goal.returns-in-Err-clause-reads
returns-in-Err-clause-reads g c =
    let options = c.args.polling.now.options.now in
    let path = c.args.polling.now.path.now in
    refused_ended options.give_up _ (asked_request Get path options []) c.args.begin.0 _ _ c.args.client.now _
    (c.in_ok-request.ensures ∙ ap (asked_request Get path options) c.new.ensures) c.in-Err.is c.in_ok-id.ensures.step

pub returns-in-Ok-clause-over : goal.returns-in-Ok-clause-over
returns-in-Ok-clause-over g c =
    let link = g.L.Link in
    goes_on link.sends link.receives link.fault_count _ _ _ _ _ _ _ c.taken.result
    (own_call _ _ (Calls c.args.begin.0 _ _) tt c.in_ok-id.ensures.step) c.taken.ensures.over

pub returns-in-Err-clause-over : goal.returns-in-Err-clause-over
returns-in-Err-clause-over g c =
    called _ _ _ _ here (own_call _ _ (Calls c.args.begin.0 _ _) tt c.in_ok-id.ensures.step)
