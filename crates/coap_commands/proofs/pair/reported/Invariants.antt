use Rattle.coap_links.specs.Pumping.{SendsAll}
use Rattle.coap_links.specs.Turning.{Turns}
use Rattle.coap_waits.specs.Asks.{AsksNothing, Turned}
use Rattle.coap_waits.specs.Linked.{HasSent, HasTurn}
use Rattle.coap_commands.specs.PairTurns.{Alternate, SideTurns, TakesTurn}
use Rattle.coap_commands.proofs.pair.reported.Given as goal

-- so far the client was asked for nothing, and took turns with its server
abbrev pub invariant-loop-turn : goal.invariant-loop-turn
invariant-loop-turn g l =
    let tells = g.T.Timekeeper.tells in
    let client = g.C.Link in
    let end = g.E.End in
    let link = g.S.Link in
    record {
      asked : Turned AsksNothing l.fn.client l.client;
      turns : Alternate
          (TakesTurn tells (HasTurn client.sends client.receives client.fault_count)
          (HasSent client.sends client.receives client.fault_count))
          (SideTurns tells
          (Turns end.waiting end.gives link.sends link.receives link.fault_count end.quiet_feed end.feeds
          end.quiet_tick end.ticks)
          (λ g k f m. SendsAll end.gives link.sends g k (end.waiting g) f m) end.state)
          l.fn.time l.fn.client l.fn.link l.fn.tally l.fn.server l.time l.client l.link l.tally l.server;
    }
