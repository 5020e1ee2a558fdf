use Rattle.std.proofs.Common.{ap, inl, inr, refl}
use Rattle.coap_kept.proofs.GoingOn.{moment_of}
use Rattle.coap_kept.proofs.SilentOn.{still}
use Rattle.coap_kept.proofs.waking.wait_for.Goals as goal

pub returns-in-At-clause-at : goal.returns-in-At-clause-at
returns-in-At-clause-at g c = record {
  asked = c.in_ok-machine.machine;
  between = _;
  asks = c.in_ok-machine.ensures;
  once = λ same. refl;
  again = λ other. absurd (cc (c.in-At.ensures.other other));
  goes_on = record {
    same = λ same. (ap moment_of (c.in-At.ensures.same same), refl);
    other = λ other. absurd (cc (c.in-At.ensures.other other));
  };
}

pub returns-in-At-clause-silent : goal.returns-in-At-clause-silent
returns-in-At-clause-silent g c = still g.L.Link.receives _

pub returns-in-At-clause-timed : goal.returns-in-At-clause-timed
returns-in-At-clause-timed g c = inl (refl, refl)

pub returns-in_ok-awake-in-AfterSilence-clause-at : goal.returns-in_ok-awake-in-AfterSilence-clause-at
returns-in_ok-awake-in-AfterSilence-clause-at g c = record {
  asked = c.in_ok-machine.machine;
  between = _;
  asks = c.in_ok-machine.ensures;
  once = λ same. absurd (cc (c.in-AfterSilence.ensures.same same));
  again = λ other. c.in_ok-awake-in-AfterSilence.ensures;
  goes_on = record {
    same = λ same. absurd (cc (c.in-AfterSilence.ensures.same same));
    other = λ other.
        (ap moment_of (c.in-AfterSilence.ensures.other other), c.in_ok-silent-in-AfterSilence.ensures.long);
  };
}

pub returns-in_ok-awake-in-AfterSilence-clause-timed : goal.returns-in_ok-awake-in-AfterSilence-clause-timed
returns-in_ok-awake-in-AfterSilence-clause-timed g c = inr c.in_ok-silent-in-AfterSilence.ensures.timed
