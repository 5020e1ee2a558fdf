use Rattle.coap_waits.proofs.Facts.{where_ok}
use Rattle.coap_asking.proofs.ObservedCalls.{told_observed}
use Rattle.coap_asking.proofs.observe.observe_and_tell.Goals as goal

pub returns-clause-observes : goal.returns-clause-observes
returns-clause-observes g c =
    told_observed c.args.client.now c.args.path.now c.args.options.now _ _ _ c.in_ok-outcome.outcome c.tell.result
    c.in_ok-outcome.ensures.becomes c.in_ok-outcome.ensures.written c.tell.ensures.status c.tell.ensures.written

pub returns-clause-over : goal.returns-clause-over
returns-clause-over g c = where_ok c.tell.result c.in_ok-outcome.ensures.over
