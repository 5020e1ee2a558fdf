use Rattle.coap_asking.specs.Pinged.{Answered}
use Rattle.coap_asking.proofs.ToldPings.{ToldSo}
use Rattle.coap_asking.proofs.pinging.ping_over.Given as goal

-- so many pings were answered and are written, and the next may begin
abbrev pub invariant-loop-number : goal.invariant-loop-number
invariant-loop-number g l = record {
  answered : Answered g.L.Link.sends g.L.Link.receives g.L.Link.fault_count g.T.Timekeeper.tells
      l.pinging.give_up l.pinging.server l.pinging.word l.fn.link l.number l.begin.0 l.link;
  told : ToldSo l.pinging.json l.number (g.O.Write.contents l.fn.out) (g.O.Write.contents l.out);
}
