use Rattle.std.proofs.Common.{subst}
use Rattle.coap_server.specs.Load.{IsLoad}
use Rattle.coap_server.specs.Object.Shown.{state_of}
use Rattle.coap_server.proofs.server.Server.load.Goals as goal

pub returns : goal.returns
returns g c = subst (λ k. IsLoad c.args.now.0 c.load_parts.result (state_of g.S.Store.content k)) c.self.view_is
    c.load_parts.ensures
