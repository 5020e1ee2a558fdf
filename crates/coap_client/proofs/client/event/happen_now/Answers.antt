use Rattle.std.proofs.Common.{sym}
use Rattle.coap_client.specs.Object.Held.{own_of}
use Rattle.coap_client.proofs.Facts.Calls.Happening.{event_happens}
use Rattle.coap_client.proofs.client.event.happen_now.Goals as goal

pub returns-in-Timeout-clause-happens : goal.returns-in-Timeout-clause-happens
returns-in-Timeout-clause-happens g c = event_happens _ (own_of c.args.parts.now.held) c.args.now.at.0
    c.args.now.word _ _ _ _
    (sym c.in-Timeout.is) (c.hear_failure.ensures.happens c.args.now.at.0 c.args.now.word)

pub returns-in-Reset-clause-happens : goal.returns-in-Reset-clause-happens
returns-in-Reset-clause-happens g c = event_happens _ (own_of c.args.parts.now.held) c.args.now.at.0 c.args.now.word
    _ _ _ _
    (sym c.in-Reset.is) (c.hear_failure-in-Reset.ensures.happens c.args.now.at.0 c.args.now.word)

pub returns-in-NoResponse-clause-happens : goal.returns-in-NoResponse-clause-happens
returns-in-NoResponse-clause-happens g c = event_happens _ (own_of c.args.parts.now.held) c.args.now.at.0
    c.args.now.word _ _ _ _
    (sym c.in-NoResponse.is) (c.hear_failure-in-NoResponse.ensures.happens c.args.now.at.0 c.args.now.word)
