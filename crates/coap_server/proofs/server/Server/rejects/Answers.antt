use Rattle.std.proofs.Common.{◌∙◌, ap}
use Rattle.coap_layer.specs.EmptyMessages.{reset_bytes}
use Rattle.coap_exchange.specs.Peers.{reset_to}
use Rattle.coap_server.proofs.server.Server.rejects.Goals as goal

pub returns : goal.returns
returns g c = c.reset.ensures ∙ ap reset_bytes (c.rejected_id-id.ensures.is
    ∙ ap (λ k. reset_to c.args.peer k.exchanges.own.separate) c.self.view_is)
