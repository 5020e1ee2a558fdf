use Rattle.std.proofs.Common.{ℕ, ap, arith, inr, length}
use Rattle.coap_kept.proofs.revival.replay_rest.Goals as goal

pub returns-in-Ok-clause-err : goal.returns-in-Ok-clause-err
returns-in-Ok-clause-err g c =
    inr (λ all. absurd (omega (arith, c.in-Ok.len_at_least, ap (length {A = ℕ}) (c.in-Ok.ensures.all all))))
