use Rattle.std.proofs.Common.{length, ap, arith}
use Rattle.slab.specs.Slab.{get}
use Rattle.coap_operations.specs.Listed.{Listed}
use Rattle.coap_operations.proofs.KeyLists.{living_len}
use Rattle.coap_operations.proofs.operations.Operations.live_len.Goals as goal

pub returns : goal.returns
returns g c =
    let a = living_len (get c.self.inside.entries) c.self.inside.queue.items c.self.inside.running
    c.self.inside.live.items c.self.invariant in
    let b = ap (λ (v : Listed g.row.W.Denot g.row.O.Denot). length v.live) c.self.view_is in
    let e = c.len.ensures in
    omega (arith, a, b, e)
