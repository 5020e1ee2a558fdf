use Rattle.std.proofs.Common.{◌≡◌, ◌-◌, None, Some, ap, subst, ◌∙◌, rules}
use Rattle.slab.specs.Slab.{get, slab_len}
use Rattle.coap_operations.specs.declared.running.Running.TheVariants as running
use Rattle.coap_operations.specs.Keys.{EachOnce, running_of}
use Rattle.coap_operations.specs.Listed.{Listed}
use Rattle.coap_operations.proofs.KeyChanges.{left_live, left_queue, listed_is}
use Rattle.coap_operations.specs.declared.entry.Entry.TheVariants.{Operation}
use Rattle.coap_operations.proofs.operations.Operations.take_running.Goals as goal

pub returns-in-Operation-clause-after : goal.returns-in-Operation-clause-after
returns-in-Operation-clause-after g c =
    let s = c.self.inside in
    let at = get s.entries in
    let to = get c.try_remove.new.self in
    let k = c.in-Started.key in
    let runs : s.running ≡ Some (running.Started k) = search rules in
    let was : at k ≡ Some (Operation c.in-Operation.operation) = search rules in
    let once = subst (λ r. EachOnce at s.queue.items r s.live.items) runs c.self.invariant in
    listed_is _ _ _ _ _ _ _ _
    (left_queue at to s.queue.items s.live.items k c.in-Operation.operation was c.try_remove.ensures.updates.others
    once)
    (ap (running_of to) c.take.ensures.after)
    (left_live at to s.queue.items s.live.items k c.in-Operation.operation was c.try_remove.ensures.updates.others once)
    ∙ ap (λ (v : Listed g.row.W.Denot g.row.O.Denot). record v
    { running = None; spare = c.try_remove.new.self.capacity - slab_len c.try_remove.new.self }) c.self.view_is
