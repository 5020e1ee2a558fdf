use Rattle.std.proofs.lemmas.List.Edits.{map_over_more}
use Rattle.coap_layer.specs.Machine.Sendings.{marked}
use Rattle.coap_layer.proofs.retransmission.mark.Goals as goal

pub loop-c-preserved : goal.loop-c-preserved
loop-c-preserved g c =
    rw (c.moved-c.ensures, c.goes_to.ensures, ← c.c-item.is)
    (map_over_more (marked c.args.to c.args.id.0 c.args.at) c.args.sendings.now c.loop-c.sendings c.loop-c.c-index
    c.c-item.result c.loop-c-test.true c.loop-c.invariant c.c-item.is)
