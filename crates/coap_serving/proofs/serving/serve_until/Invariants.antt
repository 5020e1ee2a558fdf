use Rattle.coap_links.specs.Turning.{Turns}
use Rattle.coap_wires.specs.Bearing.{BearsServing}
use Rattle.coap_wires.specs.Serves.{Turning, nothing_fed}
use Rattle.coap_serving.proofs.serving.serve_until.Given as goal

-- so far turns alone led here
abbrev pub invariant-loop-turn : goal.invariant-loop-turn
invariant-loop-turn g l =
    let end = g.E.End in
    let link = g.L.Link in
    Turning g.T.Timekeeper.tells
    (Turns end.waiting end.gives link.sends link.receives link.fault_count end.quiet_feed end.feeds
    end.quiet_tick end.ticks)
    (BearsServing link.fault_count link.broken_count l.fn.count) l.fn.count
    l.fn.time (end.state l.fn.server) l.fn.link (nothing_fed l.fn.word) l.time (end.state l.server) l.link l.tally
