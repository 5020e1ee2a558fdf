use Rattle.std.proofs.Common.{ap}
use Rattle.coap_resource.specs.Serves.{reply_of}
use Rattle.coap_server.proofs.Calls.RequestIsServed.{get_served}
use Rattle.coap_server.proofs.server.served.serve_get.Goals as goal

pub returns-clause-served : goal.returns-clause-served
returns-clause-served g c =
    get_served _ _ _ _ _ (reply_of c.in_ok-response.response) _ _ _ _ c.in_ok-number.number c.requires.get
    c.in_ok-response.ensures.served
    (ap g.S.Store.content (c.in_ok-response.ensures.get c.requires.get)) c.in_ok-number.ensures.observers
    c.in_ok-number.ensures.number c.last_block.ensures.block c.of.ensures
