use Rattle.std.proofs.Common.{◌-◌, length, remove, ap, sym, subst, refl, ◌∙◌, arith}
use Rattle.std.proofs.lemmas.Option.{slice_get_read}
use Rattle.slab.specs.Slab.{get, slab_len}
use Rattle.coap_operations.specs.Keys.{EachOnce, live_of, queue_of, running_of}
use Rattle.coap_operations.specs.Listed.{Listed}
use Rattle.coap_operations.proofs.KeyChanges.{listed_is, removed_live, removed_once, same_queue, same_running}
use Rattle.coap_operations.proofs.KeyLists.{living_len}
use Rattle.coap_operations.proofs.operations.Operations.remove_live.Goals as goal

pub remove-key-requires : goal.remove-key-requires
remove-key-requires g c =
    let s = c.self.inside in
    let a = living_len (get s.entries) s.queue.items s.running s.live.items c.self.invariant in
    let b = ap (λ (v : Listed g.row.W.Denot g.row.O.Denot). length v.live) c.self.view_is in
    let r = c.requires in
    omega (arith, a, b, r)

pub invariant_of-self : goal.invariant_of-self
invariant_of-self g c =
    let s = c.self.inside in
    let a = living_len (get s.entries) s.queue.items s.running s.live.items c.self.invariant in
    let b = ap (λ (v : Listed g.row.W.Denot g.row.O.Denot). length v.live) c.self.view_is in
    let r = c.requires in
    let found = slice_get_read s.live.items (length s.live.items) c.args.place c.remove-key.result refl
    (omega (arith, a, b, r)) c.remove-key.ensures.value in
    let u = c.try_remove.ensures.updates in
    subst (λ l. EachOnce (get c.try_remove.new.self) s.queue.items s.running l) (sym c.remove-key.ensures.items)
    (removed_once (get s.entries) (get c.try_remove.new.self) s.queue.items s.running s.live.items c.remove-key.result
    c.args.place found u.others c.self.invariant u.changed)

pub returns : goal.returns
returns g c =
    let s = c.self.inside in
    let at = get s.entries in
    let to = get c.try_remove.new.self in
    let a = living_len at s.queue.items s.running s.live.items c.self.invariant in
    let b = ap (λ (v : Listed g.row.W.Denot g.row.O.Denot). length v.live) c.self.view_is in
    let r = c.requires in
    let k = c.remove-key.result in
    let p = c.args.place in
    let found = slice_get_read s.live.items (length s.live.items) p k refl
    (omega (arith, a, b, r)) c.remove-key.ensures.value in
    let u = c.try_remove.ensures.updates in
    ap (λ p. record {
      queue = queue_of to s.queue.items;
      running = running_of to s.running;
      live =
          live_of to c.remove-key.new.self.items;
      spare =
          c.try_remove.new.self.capacity - slab_len c.try_remove.new.self;
      places = p;
    }) c.remove-key.ensures.capacity
    ∙ (listed_is _ _ _ _ _ _ _ _
    (same_queue at to s.queue.items s.running s.live.items k p found u.others c.self.invariant)
    (same_running at to s.queue.items s.running s.live.items k p found u.others c.self.invariant)
    (ap (live_of to) c.remove-key.ensures.items
    ∙ removed_live at to s.queue.items s.running s.live.items k p found u.others c.self.invariant)
    ∙ ap (λ (v : Listed g.row.W.Denot g.row.O.Denot). record v
    { live = remove v.live p; spare = c.try_remove.new.self.capacity - slab_len c.try_remove.new.self })
    c.self.view_is)
