use Rattle.std.proofs.lemmas.List.Edits.{map_over_more}
use Rattle.coap_exchange.specs.Machine.Listed.{reverted}
use Rattle.coap_exchange.proofs.listed.revert.Goals as goal

pub loop-k-preserved : goal.loop-k-preserved
loop-k-preserved g c =
    rw (← c.k-item.is) (map_over_more reverted c.args.list.now c.loop-k.list c.loop-k.k-index c.k-item.result
    c.loop-k-test.true c.loop-k.invariant c.k-item.is)
