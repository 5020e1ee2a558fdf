use Rattle.std.proofs.Common.{Some, subst}
use Rattle.coap_links.specs.PeerTables.{NamesPeer}
use Rattle.coap_links.proofs.udp6_link.Udp6Link+S+A+T+UdpSocket+L.client.Goals as goal

pub returns-clause-named : goal.returns-clause-named
returns-clause-named g c =
    subst (λ p. NamesPeer g.L.Lender.is_lent 0 p (Some c.in_ok-name.name)) c.peer_at.ensures c.in_ok-name.ensures.named
