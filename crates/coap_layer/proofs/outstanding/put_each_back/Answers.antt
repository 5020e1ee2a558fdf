use Rattle.std.proofs.lemmas.List.Edits.{map_over_more}
use Rattle.coap_layer.specs.Machine.Parts.{put_back}
use Rattle.coap_layer.proofs.outstanding.put_each_back.Goals as goal

pub loop-c-preserved : goal.loop-c-preserved
loop-c-preserved g c =
    rw (← c.c-item.is) (map_over_more put_back c.args.sendings.now c.loop-c.sendings c.loop-c.c-index c.c-item.result
    c.loop-c-test.true c.loop-c.invariant c.c-item.is)
