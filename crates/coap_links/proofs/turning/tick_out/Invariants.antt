use Rattle.std.proofs.Common.{◌≡◌}
use Rattle.coap_links.specs.Turning.{Steps}
use Rattle.coap_links.proofs.turning.tick_out.Given as goal

abbrev pub invariant-loop-now : goal.invariant-loop-now
invariant-loop-now g l =
    let state = g.E.End.state in
    Steps g.E.End.ticks (state l.fn.end) l.fn.now.0 l.fn.tally (state l.end) l.tally × (l.now ≡ l.fn.now)

abbrev pub decreases-loop-now : goal.decreases-loop-now
decreases-loop-now g l = g.E.End.work (g.E.End.state l.end) l.now.0
