use Rattle.std.proofs.Common.{ap, refl, List, ℕ, ◌∷◌}
use Rattle.coap_journal.specs.Input.{Tick}
use Rattle.coap_server.specs.Trace.{Ticks}
use Rattle.coap_replay.proofs.replay.replay_tick.Goals as goal

pub returns-in_ok-tick-in-Some-clause-done : goal.returns-in_ok-tick-in-Some-clause-done
returns-in_ok-tick-in-Some-clause-done g c =
    let now = c.in-Some.now.0 in
    let word = c.in-Some.word in
    let s = c.in_ok-tick-in-Some.ensures.step in (
      Tick now word,
      ap (λ (xs : List ℕ). 2 ∷ xs) c.in-Some.ensures.some,
      record { call = Ticks now word s.0 s.1 s.2 s.3 s.4 s.5 _; handed = refl; step = s.6 },
    )
