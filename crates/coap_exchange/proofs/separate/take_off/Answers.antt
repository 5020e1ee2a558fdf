use Rattle.std.proofs.lemmas.List.Edits.{map_over_more}
use Rattle.coap_exchange.specs.Machine.Outstanding.{over}
use Rattle.coap_exchange.proofs.separate.take_off.Goals as goal

pub loop-k-preserved : goal.loop-k-preserved
loop-k-preserved c =
    rw (c.stays-k.ensures, ← c.k-item.is) (map_over_more
    (over c.args.to c.args.id.0) c.args.list.now c.loop-k.list c.loop-k.k-index c.k-item.result c.loop-k-test.true
    c.loop-k.invariant c.k-item.is)
