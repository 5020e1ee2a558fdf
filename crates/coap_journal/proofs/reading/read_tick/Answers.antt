use Rattle.std.proofs.Common.{arith}
use Rattle.coap_journal.proofs.Written.{none_tick}
use Rattle.coap_journal.proofs.reading.read_tick.Goals as goal

pub returns-in_err-word-clause-none : goal.returns-in_err-word-clause-none
returns-in_err-word-clause-none c =
    none_tick c.from_residual-in_err-word.result c.args.bytes.now
    (omega (arith, c.in_ok-now.ensures.left, c.in_err-word.ensures.lacks))
