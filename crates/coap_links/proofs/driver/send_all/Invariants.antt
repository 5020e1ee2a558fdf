use Rattle.std.proofs.Common.{List, ◌++◌, ◌≡◌, ◌<◌, ◌^◌, length}
use Rattle.coap_layer.specs.Trace.{Packet}
use Rattle.coap_links.specs.Pumping.{SendsAll}
use Rattle.coap_links.proofs.driver.send_all.Given as goal

abbrev pub invariant-loop-datagram : goal.invariant-loop-datagram
invariant-loop-datagram g l =
    let state = g.E.End.state in
    let waiting = g.E.End.waiting in
    (ps : List Packet) × record {
      chain : SendsAll g.E.End.gives g.L.Link.sends (state l.fn.end) l.fn.link ps (state l.end) l.link;
      parts : waiting (state l.fn.end) ≡ ps ++ waiting (state l.end);
      count : l.sent ≡ length ps;
      broken : g.L.Link.broken_count l.link ≡ g.L.Link.broken_count l.fn.link;
      few : 0 < l.sent → length (waiting (state l.fn.end)) < 2 ^ 64;
    }

abbrev pub decreases-loop-datagram : goal.decreases-loop-datagram
decreases-loop-datagram g l = length (g.E.End.waiting (g.E.End.state l.end))
