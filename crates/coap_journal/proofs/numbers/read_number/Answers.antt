use Rattle.std.proofs.Common.{◌≡◌, ℕ, ◌<◌, get_or, take, arith, ap, ◌∙◌}
use Rattle.std.specs.Int.{w64, from_be_bytes}
use Rattle.coap_journal.specs.Numbers.{number}
use Rattle.coap_journal.proofs.Bytes.{number_here, length-number, too_long}
use Rattle.coap_journal.proofs.numbers.read_number.Goals as goal

pub returns-then-bytes-lt-NUMBER_LEN-clause-none : goal.returns-then-bytes-lt-NUMBER_LEN-clause-none
returns-then-bytes-lt-NUMBER_LEN-clause-none c n rest e = too_long c.args.bytes.now (number n) rest e
    (omega (arith, length-number n))

pub returns-clause-some : goal.returns-clause-some
returns-clause-some c =
    let small : (i : ℕ) → get_or c.args.bytes.now i 0 < 256 = λ i. (c.type_inv.bytes i).fits in
    let is : c.from_be_bytes-n.result ≡ from_be_bytes w64 (take 8 c.args.bytes.now) = c.from_be_bytes-n.ensures
    ∙ ap (from_be_bytes w64) c.split_at.ensures.front in
    rw (c.split_at.ensures.back) (number_here c.args.bytes.now c.from_be_bytes-n.result (omega arith) small is)
