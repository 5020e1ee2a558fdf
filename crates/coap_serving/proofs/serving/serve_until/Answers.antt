use Rattle.std.proofs.Common.{◌∙◌, arith, subst, sym}
use Rattle.coap_links.specs.Turning.{Turns}
use Rattle.coap_links.specs.declared.tally.Tally.{Tally}
use Rattle.coap_wires.specs.Bearing.{BearsServing}
use Rattle.coap_wires.specs.Serves.{Turning, further, none, nothing_fed}
use Rattle.coap_serving.proofs.serving.serve_until.Goals as goal

pub loop-turn-init : goal.loop-turn-init
loop-turn-init g c =
    let end = g.E.End in
    let link = g.L.Link in
    let at = end.state c.args.server.now in
    subst (λ (t : Tally). Turning g.T.Timekeeper.tells
    (Turns end.waiting end.gives link.sends link.receives link.fault_count end.quiet_feed end.feeds end.quiet_tick
    end.ticks)
    (BearsServing link.fault_count link.broken_count c.args.count) c.args.count c.args.time.now at c.args.link.now
    (nothing_fed c.args.word) c.args.time.now at c.args.link.now t) (sym c.fresh_tally-tally.ensures)
    none

pub loop-turn-preserved : goal.loop-turn-preserved
loop-turn-preserved g c =
    further _ _ _ _ _ _ _ _ _ c.loop-turn.invariant (omega (arith, c.if-tally-count.false)) c.in_ok-now.ensures
    c.in_ok-serve_once.ensures.turned (sym c.serve_once.ensures.borne ∙ c.in_ok-serve_once.was)
