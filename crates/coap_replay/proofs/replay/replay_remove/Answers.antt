use Rattle.std.proofs.Common.{ap, refl, List, ℕ, ◌∷◌}
use Rattle.coap_journal.specs.Input.{Remove}
use Rattle.coap_replay.proofs.replay.replay_remove.Goals as goal

pub returns-clause-done : goal.returns-clause-done
returns-clause-done g c = (
  Remove c.in_ok-now.now c.in_ok-now.path,
  ap (λ (xs : List ℕ). 4 ∷ xs) c.in_ok-now.ensures.ok,
  record { call = _; handed = refl; step = c.remove.ensures.step },
)
