use Rattle.std.proofs.Common.{◌-◌, ◌++◌, [], ◌∷◌, length, ap, sym, subst, ◌∙◌, arith}
use Rattle.slab.specs.Slab.{get, slab_len}
use Rattle.coap_operations.specs.declared.queued.Queued.TheVariants as queued
use Rattle.coap_operations.specs.Keys.{EachOnce, queue_of}
use Rattle.coap_operations.specs.Listed.{Listed}
use Rattle.coap_operations.proofs.KeyChanges.{listed_is, new_live, new_running, pushed_once, pushed_queue}
use Rattle.coap_operations.proofs.KeyLists.{waiting_len}
use Rattle.coap_operations.proofs.operations.Operations.push.Goals as goal

pub push-requires : goal.push-requires
push-requires g c =
    let a = waiting_len (get c.self.inside.entries) c.self.inside.queue.items c.self.inside.running
    c.self.inside.live.items c.self.invariant in
    let b = ap (λ (v : Listed g.row.W.Denot g.row.O.Denot). length v.queue) c.self.view_is in
    let r = c.requires in
    (omega arith, omega (arith, a, b, r))

pub invariant_of-self-2 : goal.invariant_of-self-2
invariant_of-self-2 g c =
    let s = c.self.inside in
    let to = get c.insert.new.self in
    let e = c.in-Ok.ensures in
    subst (λ q. EachOnce to q s.running s.live.items) (sym c.push.ensures.items)
    (pushed_once (get s.entries) to s.queue.items s.running s.live.items c.in-Ok.key c.args.operation e.was_vacant
    e.updates.changed e.updates.others c.self.invariant)

pub returns-clause-added : goal.returns-clause-added
returns-clause-added g c =
    let s = c.self.inside in
    let at = get s.entries in
    let to = get c.insert.new.self in
    let e = c.in-Ok.ensures in
    let k = c.in-Ok.key in
    let op = c.args.operation in
    listed_is _ _ _ _ _ _ _ _
    (ap (queue_of to) c.push.ensures.items ∙ pushed_queue at to s.queue.items s.running s.live.items k op e.was_vacant
    e.updates.changed e.updates.others c.self.invariant)
    (new_running at to s.queue.items s.running s.live.items k op e.was_vacant e.updates.changed e.updates.others
    c.self.invariant)
    (new_live at to s.queue.items s.running s.live.items k op e.was_vacant e.updates.changed e.updates.others
    c.self.invariant)
    ∙ ap (λ (v : Listed g.row.W.Denot g.row.O.Denot). record v {
      queue = v.queue ++ queued.Starts c.args.operation ∷ [];
      spare =
          c.insert.new.self.capacity - slab_len c.insert.new.self;
    }) c.self.view_is
