use Rattle.std.proofs.Common.{arith}
use Rattle.coap_journal.proofs.Written.{feed_cut, none_feed}
use Rattle.coap_journal.proofs.reading.read_feed.Goals as goal

pub returns-in_err-word-clause-none : goal.returns-in_err-word-clause-none
returns-in_err-word-clause-none c =
    none_feed c.from_residual-in_err-word.result c.args.bytes.now
    (omega (arith, c.in_ok-now.ensures.left, c.in_err-word.ensures.lacks))

pub returns-in_err-from-clause-none : goal.returns-in_err-from-clause-none
returns-in_err-from-clause-none c =
    none_feed c.from_residual-in_err-from.result c.args.bytes.now
    (omega (arith, c.in_ok-now.ensures.left, c.in_ok-word.ensures.left, c.in_err-from.ensures.lacks))

pub returns-in_err-bytes-clause-none : goal.returns-in_err-bytes-clause-none
returns-in_err-bytes-clause-none c =
    feed_cut c.from_residual-in_err-bytes.result c.args.bytes.now c.in_ok-now.behind.now c.in_ok-word.behind.now
    c.in_ok-from.behind.now c.in_ok-now.now c.in_ok-word.word c.in_ok-from.from c.in_ok-now.ensures.some
    c.in_ok-word.ensures.some c.in_ok-from.ensures.some c.in_ok-from.ensures.left c.in_err-bytes.ensures.none
