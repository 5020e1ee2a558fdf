use Rattle.std.proofs.Common.{refl, sym, subst}
use Rattle.coap_links.specs.Turning.{Steps, none, further}
use Rattle.coap_links.specs.declared.tally.Tally.{Tally}
use Rattle.coap_links.proofs.turning.tick_out.Goals as goal

pub loop-now-init : goal.loop-now-init
loop-now-init g c = (none, refl)

pub loop-now-preserved : goal.loop-now-preserved
loop-now-preserved g c =
    let state = g.E.End.state in
    let so_far = c.loop-now.invariant.0 in
    let did = c.loop-now-test.ensures.further refl in (
      subst (λ (t : Tally). Steps g.E.End.ticks (state c.args.end.now) c.args.now.0 c.args.tally.now
          (state c.step.new.end) t) (sym did.1)
          (further _ _ _ so_far did.0),
      refl,
    )
