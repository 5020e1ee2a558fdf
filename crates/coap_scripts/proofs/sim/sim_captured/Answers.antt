use Rattle.coap_scripts.proofs.RunEnds.{of_reader, text_of}
use Rattle.coap_scripts.proofs.sim.sim_captured.Goals as goal

pub returns-in-Ok-clause-said : goal.returns-in-Ok-clause-said
returns-in-Ok-clause-said g c =
    of_reader _ _ c.args.ends c.args.remembered c.args.plains.now c.as_slice.result.now
    (g.R.Read.remaining c.args.script.now) c.sim_text.result
    (text_of _ _ c.read_to_end.new.buf.items _ c.as_slice.ensures.value c.new-text.ensures.items c.in-Ok.ensures.bytes)
    c.sim_text.ensures.said
