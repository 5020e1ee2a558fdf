use Rattle.std.proofs.Common.{[], refl}
use Rattle.coap_journal.specs.Records.{Woke}
use Rattle.coap_replay.proofs.replay.replay_woke.Goals as goal

pub returns-in-Some-clause-done : goal.returns-in-Some-clause-done
returns-in-Some-clause-done g c =
    (Woke c.in-Some.further, [], c.in-Some.ensures.some, (refl, refl), refl, λ latest. refl)
