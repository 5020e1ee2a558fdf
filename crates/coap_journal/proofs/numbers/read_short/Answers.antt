use Rattle.std.proofs.Common.{◌≡◌, ℕ, ◌<◌, get_or, take, arith, ap, ◌∙◌}
use Rattle.std.specs.Int.{w32, from_be_bytes}
use Rattle.coap_journal.specs.Numbers.{short}
use Rattle.coap_journal.proofs.Bytes.{short_here, length-short, too_long}
use Rattle.coap_journal.proofs.numbers.read_short.Goals as goal

pub returns-then-bytes-lt-SHORT_LEN-clause-none : goal.returns-then-bytes-lt-SHORT_LEN-clause-none
returns-then-bytes-lt-SHORT_LEN-clause-none c n rest e = too_long c.args.bytes.now (short n) rest e
    (omega (arith, length-short n))

pub returns-clause-some : goal.returns-clause-some
returns-clause-some c =
    let small : (i : ℕ) → get_or c.args.bytes.now i 0 < 256 = λ i. (c.type_inv.bytes i).fits in
    let is : c.from_be_bytes.result ≡ from_be_bytes w32 (take 4 c.args.bytes.now) = c.from_be_bytes.ensures
    ∙ ap (from_be_bytes w32) c.split_at.ensures.front in
    rw (c.split_at.ensures.back) (short_here c.args.bytes.now c.from_be_bytes.result (omega arith) small is)
