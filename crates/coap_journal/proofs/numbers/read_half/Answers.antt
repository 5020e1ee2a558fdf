use Rattle.std.proofs.Common.{◌≡◌, ℕ, ◌<◌, get_or, take, arith, ap, ◌∙◌}
use Rattle.std.specs.Int.{w16, from_be_bytes}
use Rattle.coap_journal.specs.Numbers.{half}
use Rattle.coap_journal.proofs.Bytes.{half_here, length-half, too_long}
use Rattle.coap_journal.proofs.numbers.read_half.Goals as goal

pub returns-then-bytes-lt-HALF_LEN-clause-none : goal.returns-then-bytes-lt-HALF_LEN-clause-none
returns-then-bytes-lt-HALF_LEN-clause-none c n rest e = too_long c.args.bytes.now (half n) rest e
    (omega (arith, length-half n))

pub returns-clause-some : goal.returns-clause-some
returns-clause-some c =
    let small : (i : ℕ) → get_or c.args.bytes.now i 0 < 256 = λ i. (c.type_inv.bytes i).fits in
    let is : c.from_be_bytes.result ≡ from_be_bytes w16 (take 2 c.args.bytes.now) = c.from_be_bytes.ensures
    ∙ ap (from_be_bytes w16) c.split_at.ensures.front in
    rw (c.split_at.ensures.back) (half_here c.args.bytes.now c.from_be_bytes.result (omega arith) small is)
