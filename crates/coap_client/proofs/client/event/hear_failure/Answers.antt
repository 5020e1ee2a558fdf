use Rattle.coap_client.specs.Object.Held.{own_of}
use Rattle.coap_client.proofs.Facts.Calls.Happening.{failed_happens}
use Rattle.coap_client.proofs.client.event.hear_failure.Goals as goal

pub returns-clause-happens : goal.returns-clause-happens
returns-clause-happens g c at word = failed_happens _ _
    (own_of c.args.parts.now.held) _ _ at word c.fail.ensures.deed c.fail.ensures.own
