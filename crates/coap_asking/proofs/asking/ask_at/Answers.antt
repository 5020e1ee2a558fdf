use Rattle.std.proofs.Common.{◌≡◌, subst}
use Rattle.coap_wires.specs.Hosts.{IsOfServer, IsServer, Knows}
use Rattle.coap_wires.specs.declared.hosts.Peer.{Peer}
use Rattle.coap_wires.specs.declared.hosts.Peer.TheVariants.{Four, Six}
use Rattle.coap_asking.proofs.AskedTasks.{done_of}
use Rattle.coap_asking.proofs.asking.ask_at.Goals as goal

pub returns-in-Four : goal.returns-in-Four
returns-in-Four g c =
    done_of _ _ (λ e. e ≡ c.in-Four.server) (IsServer c.args.server)
    (λ e is. (
      Four c.in-Four.server,
      subst (λ (p : Peer). IsOfServer c.args.server p) c.in-Four.is c.in_ok-server.ensures,
      is,
    ))
    _ _ _ _ c.ask_told.ensures

pub returns-in-Six : goal.returns-in-Six
returns-in-Six g c =
    done_of _ _ (Knows (Six c.in-Six.server)) (IsServer c.args.server)
    (λ e is. (
      Six c.in-Six.server,
      subst (λ (p : Peer). IsOfServer c.args.server p) c.in-Six.is c.in_ok-server.ensures,
      is,
    ))
    _ _ _ _ c.ask_six.ensures
