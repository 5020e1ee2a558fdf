use Rattle.std.proofs.Common.{◌≡◌, subst}
use Rattle.coap_server.specs.Object.Shown.{state_of}
use Rattle.coap_server.specs.Peers.{knows}
use Rattle.coap_server.proofs.server.Server.knows.Goals as goal

pub returns : goal.returns
returns g c = subst (λ k. c.know.result ≡ knows (state_of g.S.Store.content k) c.args.now.0 c.args.peer)
    c.self.view_is c.know.ensures
