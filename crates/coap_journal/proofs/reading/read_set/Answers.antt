use Rattle.std.proofs.Common.{sym, ◌∙◌, ◌++◌}
use Rattle.coap_journal.specs.Input.{format_bytes, path_bytes, text}
use Rattle.coap_journal.proofs.Written.{number_rest}
use Rattle.coap_journal.proofs.reading.read_set.Goals as goal

pub returns-in-Some-clause-written : goal.returns-in-Some-clause-written
returns-in-Some-clause-written g c now path format body rest ok e err =
    c.read_change.ensures.written path format body rest ok.1 ok.2 ok.3
    (number_rest c.in-Some.now now c.in-Some.behind.now (format_bytes format ++ (path_bytes path ++ text body)) rest
    (sym c.in-Some.ensures.some ∙ e))
    err
