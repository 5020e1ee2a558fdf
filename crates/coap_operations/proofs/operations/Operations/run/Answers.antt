use Rattle.std.proofs.Common.{◌-◌, Some, ap, ◌∙◌}
use Rattle.slab.specs.Slab.{get, slab_len}
use Rattle.coap_operations.specs.declared.running.Running.TheVariants as running
use Rattle.coap_operations.specs.Listed.{Listed}
use Rattle.coap_operations.proofs.KeyChanges.{listed_is, new_live, new_queue, started_is}
use Rattle.coap_operations.proofs.operations.Operations.run.Goals as goal

pub returns : goal.returns
returns g c =
    let s = c.self.inside in
    let at = get s.entries in
    let to = get c.insert_reserved-key.new.self in
    let k = c.insert_reserved-key.result in
    let e = c.insert_reserved-key.ensures in
    let op = c.args.operation in
    listed_is _ _ _ _ _ _ _ _
    (new_queue at to s.queue.items s.running s.live.items k op e.was_vacant e.updates.changed e.updates.others
    c.self.invariant)
    (started_is to k op e.updates.changed)
    (new_live at to s.queue.items s.running s.live.items k op e.was_vacant e.updates.changed e.updates.others
    c.self.invariant)
    ∙ ap (λ (v : Listed g.row.W.Denot g.row.O.Denot). record v {
      running = Some (running.Started c.args.operation);
      spare =
          c.insert_reserved-key.new.self.capacity - slab_len c.insert_reserved-key.new.self;
    }) c.self.view_is
