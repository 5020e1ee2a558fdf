use Rattle.std.proofs.Common.{◌++◌}
use Rattle.coap_journal.specs.Input.{path_bytes, text}
use Rattle.coap_journal.proofs.Written.{after_format}
use Rattle.coap_journal.proofs.reading.read_change.Goals as goal

pub returns-in-Some-clause-written : goal.returns-in-Some-clause-written
returns-in-Some-clause-written g c path format body rest fine ok few e err =
    c.read_content.ensures.written path body rest ok few
    (after_format format c.in-Some.format c.args.bytes.now c.in-Some.behind.now (path_bytes path ++ text body) rest fine
    c.in-Some.ensures.fits c.in-Some.ensures.some e)
    err
