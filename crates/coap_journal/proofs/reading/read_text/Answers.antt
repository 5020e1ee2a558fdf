use Rattle.std.proofs.Common.{rules}
use Rattle.coap_journal.proofs.Written.{text_cut}
use Rattle.coap_journal.proofs.reading.read_text.Goals as goal

pub returns-then-rest-len-clause-none : goal.returns-then-rest-len-clause-none
returns-then-rest-len-clause-none c =
    text_cut c.args.bytes.now c.in_ok-len.rest.now c.in_ok-len.len (search rules) c.in_ok-len.ensures.some
    c.if-rest-len.true
