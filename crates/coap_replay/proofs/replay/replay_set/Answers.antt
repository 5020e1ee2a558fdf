use Rattle.std.proofs.Common.{ap, refl, List, ℕ, ◌∷◌}
use Rattle.coap_journal.specs.Input.{Set}
use Rattle.coap_replay.proofs.replay.replay_set.Goals as goal

pub returns-clause-done : goal.returns-clause-done
returns-clause-done g c = (
  Set c.in_ok-now.now.0 c.in_ok-now.path c.in_ok-now.format c.in_ok-now.body.now,
  ap (λ (xs : List ℕ). 3 ∷ xs) c.in_ok-now.ensures.ok,
  record { call = _; handed = refl; step = c.set.ensures.step (c.set_lacked-lacked.ensures.there c.if-lacked.false) },
)
