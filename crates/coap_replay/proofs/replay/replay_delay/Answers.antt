use Rattle.std.proofs.Common.{ap, refl, List, ℕ, ◌∷◌}
use Rattle.coap_journal.specs.Input.{Delay}
use Rattle.coap_replay.proofs.replay.replay_delay.Goals as goal

pub returns-clause-done : goal.returns-clause-done
returns-clause-done g c = (
  Delay c.in_ok-ms.path c.in_ok-ms.ms,
  ap (λ (xs : List ℕ). 5 ∷ xs) c.in_ok-ms.ensures.ok,
  record {
    call = _;
    handed = refl;
    step = c.set_delay.ensures.step (c.delay_lacked-lacked.ensures.there c.if-lacked.false);
  },
)
