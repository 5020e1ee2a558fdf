use Rattle.std.proofs.Common.{refl}
use Rattle.coap_client.specs.Object.Held.{own_of}
use Rattle.coap_client.proofs.Facts.Calls.Happening.{nothing_comes}
use Rattle.coap_client.proofs.client.event.happen.Goals as goal

pub returns-in_default-clause-happens : goal.returns-in_default-clause-happens
returns-in_default-clause-happens g c = nothing_comes
    (own_of c.args.parts.now.held) _ c.args.parts.now.asker.state c.args.now.at.0 c.args.now.word c.args.event
    c.in_default.is refl
