use Rattle.std.proofs.Common.{◌∙◌, ◌++◌}
use Rattle.coap_journal.specs.Numbers.{number}
use Rattle.coap_journal.specs.Records.{configuration_bytes, life_bytes, seed_bytes}
use Rattle.coap_journal.proofs.Beginnings.{no_parts, versions_stand}
use Rattle.coap_journal.proofs.Written.{after_versions}
use Rattle.coap_journal.proofs.beginning.read_begun_parts.Goals as goal

pub returns-in-None-clause-written : goal.returns-in-None-clause-written
returns-in-None-clause-written c b l ok e =
    absurd (c.in-None.ensures.none b l ok
    (after_versions c.args.bytes.now c.in-Ok.behind.now b l c.in-Ok.ensures.ok e))

pub returns-in-Err-clause-written : goal.returns-in-Err-clause-written
returns-in-Err-clause-written c b l ok e =
    c.in-Err.ensures.written
    ((configuration_bytes b.configuration ++ (seed_bytes b.seed ++ number b.base)) ++ life_bytes l)
    (e ∙ versions_stand b l)

pub returns-in-None-clause-err : goal.returns-in-None-clause-err
returns-in-None-clause-err c =
    no_parts c.args.bytes.now c.in-Ok.behind.now c.in-Ok.ensures.ok c.in-None.ensures.none
