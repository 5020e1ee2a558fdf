use Rattle.coap_kept.specs.Silence.{Lasts}
use Rattle.coap_kept.proofs.SilentOn.{silent_on, still}
use Rattle.coap_kept.proofs.silence.be_silent.Goals as goal

pub loop-turn-init : goal.loop-turn-init
loop-turn-init g c = (still g.L.Link.receives _, (_, Lasts.begun _ c.in_ok-begin.ensures))

pub loop-turn-preserved : goal.loop-turn-preserved
loop-turn-preserved g c = (
  silent_on g.L.Link.receives _ _ _ c.loop-turn.invariant.0 c.drop_one.ensures,
  (_, Lasts.on _ _ _ _ c.loop-turn.invariant.1.1 c.in_ok-now.ensures),
)

pub returns-then-passed-ms-clause-timed : goal.returns-then-passed-ms-clause-timed
returns-then-passed-ms-clause-timed g c =
    (_, _, Lasts.on _ _ _ _ c.loop-turn.invariant.1.1 c.in_ok-now.ensures, c.since-passed.ensures)
