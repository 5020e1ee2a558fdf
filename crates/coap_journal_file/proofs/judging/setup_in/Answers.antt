use Rattle.coap_journal_file.proofs.FirstFrames.{setup_is}
use Rattle.coap_journal_file.proofs.judging.setup_in.Goals as goal

pub returns-in-Some : goal.returns-in-Some
returns-in-Some c =
    setup_is c.journal_law.ensures.one_frame c.args.place c.args.bytes.now c.in-Some.body.now c.in-Some.field-0-1.now
    c.inputs_in.result c.in-Some.ensures.some c.in-Some.ensures.short c.inputs_in.ensures.some c.inputs_in.ensures.none
