use Rattle.std.proofs.Common.{Err, ap, sym, ◌∙◌}
use Rattle.coap_journal.specs.Input.{path_bytes}
use Rattle.coap_journal.proofs.Written.{err_is, number_rest}
use Rattle.coap_journal.proofs.reading.read_numbered_path.Goals as goal

pub returns-in-Err-clause-written : goal.returns-in-Err-clause-written
returns-in-Err-clause-written g c n path rest ok e err =
    c.in-Err.ensures.written path rest ok
    (number_rest c.in-Some.n n c.in-Some.behind.now (path_bytes path) rest (sym c.in-Some.ensures.some ∙ e))
    (ap Err (err_is err))
