use Rattle.std.proofs.Common.{rules}
use Rattle.coap_resource.specs.Serves.{reply_of}
use Rattle.coap_server.proofs.Calls.RequestIsServed.{change_served}
use Rattle.coap_server.proofs.server.served.serve_change.Goals as goal

pub returns-clause-served : goal.returns-clause-served
returns-clause-served g c =
    change_served _ _ _ _ _ (reply_of c.in_ok-response.response) _ _ _ _ _ c.requires.change
    c.in_ok-response.ensures.served (search rules) (search rules) c.last_block.ensures.block c.of.ensures
