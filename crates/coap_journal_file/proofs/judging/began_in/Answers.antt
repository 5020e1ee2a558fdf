use Rattle.std.proofs.Common.{arith, refl}
use Rattle.coap_journal_file.proofs.FirstFrames.{begun_is, no_beginning, other_body}
use Rattle.coap_journal_file.proofs.judging.began_in.Goals as goal

pub returns-in_default-clause-err : goal.returns-in_default-clause-err
returns-in_default-clause-err c = no_beginning c.args.bytes.now c.in_default.ensures.none

pub returns-in-Ok-clause-ok : goal.returns-in-Ok-clause-ok
returns-in-Ok-clause-ok c = (
  begun_is c.args.bytes.now c.in-Some.body.now c.in-Some.rest.now c.in-Ok.beginning c.in-Ok.field-0-1 _ _
      c.in-Some.ensures.some c.in-Ok.ensures.ok (omega arith) c.setup_in-setup.ensures,
  refl,
)

pub returns-in-Err-clause-err : goal.returns-in-Err-clause-err
returns-in-Err-clause-err c =
    other_body c.args.bytes.now c.in-Some.body.now c.in-Some.rest.now c.in-Err.why c.in-Some.ensures.some
    c.in-Some.ensures.short c.in-Err.ensures.err
