use Rattle.std.proofs.Common.{ap, refl, List, ℕ, ◌∷◌}
use Rattle.coap_journal.specs.Input.{Forget}
use Rattle.coap_server.specs.Trace.{Forgets}
use Rattle.coap_replay.proofs.replay.replay_forget.Goals as goal

pub returns-in-Some-clause-done : goal.returns-in-Some-clause-done
returns-in-Some-clause-done g c = (
  Forget c.in-Some.peer,
  ap (λ (xs : List ℕ). 11 ∷ xs) c.in-Some.ensures.some,
  record { call = Forgets c.in-Some.peer; handed = refl; step = c.let_go.ensures },
)
