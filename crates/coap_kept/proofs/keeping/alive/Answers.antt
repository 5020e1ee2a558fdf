use Rattle.coap_kept.proofs.SilentOn.{silent_on}
use Rattle.coap_kept.proofs.keeping.alive.Goals as goal

pub returns-in-Ok-clause-alive : goal.returns-in-Ok-clause-alive
returns-in-Ok-clause-alive g c =
    let woken = c.in-Ok.ensures.awake in
    record {
      before = _;
      replayed = _;
      made = c.in_ok-made.ensures.made;
      asked = woken.1.asked;
      machine = woken.0;
      goes_on = woken.1.goes_on;
      awake = woken.2;
    }

pub returns-in-Ok-clause-silent : goal.returns-in-Ok-clause-silent
returns-in-Ok-clause-silent g c =
    silent_on g.L.Link.receives _ _ _ c.in_ok-made.ensures.silent c.in-Ok.ensures.silent

pub returns-in-Ok-clause-timed : goal.returns-in-Ok-clause-timed
returns-in-Ok-clause-timed g c = (_, c.in_ok-made.ensures.timed, c.in-Ok.ensures.timed)
