use Rattle.std.proofs.Common.{not, filter, ap, sym, subst, refl, ◌∙◌}
use Rattle.slab.specs.Slab.{get}
use Rattle.coap_operations.specs.Keys.{EachOnce, queue_of}
use Rattle.coap_operations.specs.Listed.{Listed, is_cancel}
use Rattle.coap_operations.proofs.KeyChanges.{listed_is}
use Rattle.coap_operations.proofs.KeyLists.{drop_queued, dropped_once}
use Rattle.coap_operations.proofs.operations.Operations.drop_cancel.Goals as goal

pub invariant_of-self : goal.invariant_of-self
invariant_of-self g c =
    let s = c.self.inside in
    subst (λ q. EachOnce (get s.entries) q s.running s.live.items) (sym c.drop_cancel.ensures)
    (dropped_once (get s.entries) c.args.number s.queue.items s.running s.live.items c.self.invariant)

pub returns : goal.returns
returns g c =
    let s = c.self.inside in
    listed_is _ _ _ _ _ _ _ _ (ap (queue_of (get s.entries)) c.drop_cancel.ensures
    ∙ drop_queued (get s.entries) c.args.number s.queue.items) refl refl
    ∙ ap (λ (v : Listed g.row.W.Denot g.row.O.Denot). record v
    { queue = filter (λ q. not (is_cancel c.args.number q)) v.queue }) c.self.view_is
