use Rattle.std.proofs.Common.{ap, refl, List, ℕ, ◌∷◌}
use Rattle.coap_journal.specs.Input.{Plain}
use Rattle.coap_replay.proofs.replay.replay_plain.Goals as goal

pub returns-clause-done : goal.returns-clause-done
returns-clause-done g c = (
  Plain c.in_ok-path.path,
  ap (λ (xs : List ℕ). 6 ∷ xs) c.in_ok-path.ensures.ok,
  record {
    call = _;
    handed = refl;
    step = c.set_plain.ensures.step (c.plain_lacked-lacked.ensures.there c.if-lacked.false);
  },
)
