use Rattle.std.proofs.Common.{sym, subst}
use Rattle.coap_arguments.specs.Uris.{IsPortText}
use Rattle.coap_arguments.proofs.uris.server_in.Goals as goal

pub returns-in_default-port_in : goal.returns-in_default-port_in
returns-in_default-port_in c =
    λ port is. c.in_default-port_in.ensures port (subst (λ t. IsPortText t port) (sym c.host_and_port.ensures.port) is)
