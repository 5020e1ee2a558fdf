use Rattle.std.proofs.Common.{length, ap, ◌∙◌}
use Rattle.slab.specs.Slab.{get}
use Rattle.coap_operations.specs.Listed.{Listed}
use Rattle.coap_operations.proofs.KeyLists.{waiting_len}
use Rattle.coap_operations.proofs.operations.Operations.waiting_len.Goals as goal

pub returns-clause-len : goal.returns-clause-len
returns-clause-len g c =
    c.len.ensures.value
    ∙ (waiting_len (get c.self.inside.entries) c.self.inside.queue.items c.self.inside.running c.self.inside.live.items
    c.self.invariant
    ∙ ap (λ (v : Listed g.row.W.Denot g.row.O.Denot). length v.queue) c.self.view_is)
