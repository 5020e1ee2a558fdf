use Rattle.std.proofs.Common.{◌∷◌, ap, arith, ℕ, List, length, ◌∙◌}
use Rattle.coap_journal.specs.Records.{life_bytes}
use Rattle.coap_journal.proofs.Written.{all_taken, length-life, none_life}
use Rattle.coap_journal.proofs.beginning.read_woke.Goals as goal

pub returns-then-bytes-ne-LIFE_LEN-clause-none : goal.returns-then-bytes-ne-LIFE_LEN-clause-none
returns-then-bytes-ne-LIFE_LEN-clause-none c life e =
    absurd (c.if-bytes-ne-LIFE_LEN.true (ap (length {A = ℕ}) e ∙ length-life life))

pub returns-in_err-life-clause-none : goal.returns-in_err-life-clause-none
returns-in_err-life-clause-none c =
    none_life c.from_residual.result c.args.bytes.now
    (λ len. omega (arith, len, c.in_err-life.ensures.lacks))

pub returns-clause-some : goal.returns-clause-some
returns-clause-some c =
    ap (λ (xs : List ℕ). 8 ∷ xs)
    (all_taken c.args.bytes.now (life_bytes c.in_ok-life.life) _
    (omega (arith, c.if-bytes-ne-LIFE_LEN.false, length-life c.in_ok-life.life))
    c.in_ok-life.ensures.some)
