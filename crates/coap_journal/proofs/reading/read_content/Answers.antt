use Rattle.coap_journal.specs.Input.{text}
use Rattle.coap_journal.proofs.Written.{after_path}
use Rattle.coap_journal.proofs.reading.read_content.Goals as goal

pub returns-in-None-clause-written : goal.returns-in-None-clause-written
returns-in-None-clause-written g c path body rest ok few e err =
    c.in-None.ensures.none body rest few
    (after_path path c.in-Ok.path c.args.bytes.now c.in-Ok.behind.now (text body) rest ok c.in-Ok.ensures.short
    c.in-Ok.ensures.ok e)
