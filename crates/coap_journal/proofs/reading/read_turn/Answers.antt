use Rattle.std.proofs.Common.{arith}
use Rattle.coap_journal.proofs.Written.{none_turn}
use Rattle.coap_journal.proofs.reading.read_turn.Goals as goal

pub returns-in_err-taken-clause-none : goal.returns-in_err-taken-clause-none
returns-in_err-taken-clause-none c =
    none_turn c.from_residual-in_err-taken.result c.args.bytes.now
    (omega (arith, c.in_ok-moment.ensures.left, c.in_err-taken.ensures.lacks))
