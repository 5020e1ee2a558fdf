use Rattle.std.proofs.Common.{ap, refl, List, ℕ, ◌∷◌}
use Rattle.coap_journal.specs.Input.{Feed}
use Rattle.coap_server.specs.Trace.{Feeds}
use Rattle.coap_replay.proofs.replay.replay_feed.Goals as goal

pub returns-in_ok-feed-in-Some-clause-done : goal.returns-in_ok-feed-in-Some-clause-done
returns-in_ok-feed-in-Some-clause-done g c =
    let fed = c.in-Some.fed in
    let s = c.in_ok-feed-in-Some.ensures.step in (
      Feed fed.now.0 fed.from fed.bytes.now fed.word,
      ap (λ (xs : List ℕ). 1 ∷ xs) c.in-Some.ensures.some,
      record { call = Feeds fed.now.0 fed.from fed.bytes.now fed.word s.0 s.1 s.2 s.3; handed = refl; step = s.4 },
    )
