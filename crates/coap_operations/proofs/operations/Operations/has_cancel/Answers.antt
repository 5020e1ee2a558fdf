use Rattle.std.proofs.Common.{ap, ◌∙◌}
use Rattle.std.specs.List.{list_any}
use Rattle.slab.specs.Slab.{get}
use Rattle.coap_operations.specs.Keys.{is_cancel_key}
use Rattle.coap_operations.specs.Listed.{Listed, is_cancel}
use Rattle.coap_operations.proofs.KeyLists.{has_queued}
use Rattle.coap_operations.proofs.operations.Operations.has_cancel.Goals as goal

pub returns : goal.returns
returns g c =
    c.has_cancel.ensures
    ∙ (ap (list_any (is_cancel_key c.args.number)) c.as_slice.ensures.value
    ∙ (has_queued (get c.self.inside.entries) c.args.number c.self.inside.queue.items
    ∙ ap (λ (v : Listed g.row.W.Denot g.row.O.Denot). list_any (is_cancel c.args.number) v.queue) c.self.view_is))
