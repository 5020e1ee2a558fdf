use Rattle.std.proofs.Common.{Some, subst}
use Rattle.coap_links.specs.SocketCalls.{SendsOn}
use Rattle.coap_links.specs.declared.socket.Socket.{Socket}
use Rattle.coap_links.proofs.udp6_link.Udp6LinkLink.send.Goals as goal

pub returns-in-Some-clause-sends : goal.returns-in-Some-clause-sends
returns-in-Some-clause-sends g c = (
  Some c.in-Some.address,
  c.in-Some.ensures.reached,
  subst (λ (s : Socket g.row.D.Denot). SendsOn g.D.DatagramSocket.hands s c.in-Some.address c.args.bytes.now
      c.send.new.self) c.address_of.ensures.socket c.send.ensures.sends,
  c.address_of.ensures.address,
)
