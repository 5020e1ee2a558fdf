use Rattle.std.proofs.Common.{arith, rules}
use Rattle.coap_journal.proofs.Written.{no_configuration, none_configuration}
use Rattle.coap_journal.proofs.beginning.read_configuration.Goals as goal

pub returns-in_err-limit-clause-none : goal.returns-in_err-limit-clause-none
returns-in_err-limit-clause-none c =
    none_configuration c.from_residual-in_err-limit.result c.args.bytes.now
    (omega (arith, c.in_ok-szx.ensures.left, c.in_err-limit.ensures.lacks))

pub returns-in_err-remembered-clause-none : goal.returns-in_err-remembered-clause-none
returns-in_err-remembered-clause-none c =
    none_configuration c.from_residual-in_err-remembered.result c.args.bytes.now
    (omega (arith, c.in_ok-szx.ensures.left, c.in_ok-limit.ensures.left, c.in_err-remembered.ensures.lacks))

pub returns-in_err-changes-clause-none : goal.returns-in_err-changes-clause-none
returns-in_err-changes-clause-none c =
    none_configuration c.from_residual-in_err-changes.result c.args.bytes.now
    (omega (
      arith,
      c.in_ok-szx.ensures.left,
      c.in_ok-limit.ensures.left,
      c.in_ok-remembered.ensures.left,
      c.in_err-changes.ensures.lacks,
    ))

pub returns-in_err-configuration-clause-none : goal.returns-in_err-configuration-clause-none
returns-in_err-configuration-clause-none c =
    no_configuration c.from_residual-in_err-configuration.result c.args.bytes.now c.in_ok-szx.behind.now
    c.in_ok-limit.behind.now c.in_ok-remembered.behind.now c.in_ok-szx.szx c.in_ok-limit.limit
    c.in_ok-remembered.remembered
    c.in_ok-changes.changes (search rules) (search rules) (search rules) c.in_ok-szx.ensures.some
    c.in_ok-limit.ensures.some c.in_ok-remembered.ensures.some c.in_err-configuration.ensures.none
