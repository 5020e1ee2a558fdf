use Rattle.std.proofs.Common.{◌≡◌, ◌-◌, ◌++◌, [], ◌∷◌, length, ap, sym, subst, ◌∙◌, arith}
use Rattle.slab.specs.Slab.{get, slab_len}
use Rattle.coap_operations.specs.Keys.{EachOnce, live_of, queue_of, running_of}
use Rattle.coap_operations.specs.Listed.{Listed}
use Rattle.coap_operations.proofs.KeyChanges.{listed_is, observed_live, observed_once, observed_queue, observed_running}
use Rattle.coap_operations.proofs.KeyLists.{living_len}
use Rattle.coap_operations.proofs.operations.Operations.go_live.Goals as goal

pub push_reserved-requires : goal.push_reserved-requires
push_reserved-requires g c =
    let s = c.self.inside in
    let a = living_len (get s.entries) s.queue.items s.running s.live.items c.self.invariant in
    let b = ap (λ (v : Listed g.row.W.Denot g.row.O.Denot). length v.live) c.self.view_is in
    let d = ap (λ (v : Listed g.row.W.Denot g.row.O.Denot). v.places) c.self.view_is in
    let r = c.requires.place in
    omega (arith, a, b, d, r)

pub invariant_of-self : goal.invariant_of-self
invariant_of-self g c =
    let s = c.self.inside in
    let to = get c.insert_reserved-key.new.self in
    let e = c.insert_reserved-key.ensures in
    subst (λ l. EachOnce to s.queue.items s.running l) (sym c.push_reserved.ensures.items)
    (observed_once (get s.entries) to s.queue.items s.running s.live.items c.insert_reserved-key.result
    c.args.observation e.was_vacant e.updates.changed e.updates.others c.self.invariant)

pub returns : goal.returns
returns g c =
    let s = c.self.inside in
    let at = get s.entries in
    let to = get c.insert_reserved-key.new.self in
    let k = c.insert_reserved-key.result in
    let e = c.insert_reserved-key.ensures in
    let o = c.args.observation in
    let cap : c.push_reserved.new.self.cap ≡ s.live.cap = c.push_reserved.ensures.capacity in
    ap (λ p. record {
      queue = queue_of to s.queue.items;
      running = running_of to s.running;
      live =
          live_of to c.push_reserved.new.self.items;
      spare =
          c.insert_reserved-key.new.self.capacity - slab_len c.insert_reserved-key.new.self;
      places = p;
    }) cap
    ∙ (listed_is _ _ _ _ _ _ _ _
    (observed_queue at to s.queue.items s.running s.live.items k o e.was_vacant e.updates.changed e.updates.others
    c.self.invariant)
    (observed_running at to s.queue.items s.running s.live.items k o e.was_vacant e.updates.changed e.updates.others
    c.self.invariant)
    (ap (live_of to) c.push_reserved.ensures.items
    ∙ observed_live at to s.queue.items s.running s.live.items k o e.was_vacant e.updates.changed e.updates.others
    c.self.invariant)
    ∙ ap (λ (v : Listed g.row.W.Denot g.row.O.Denot). record v {
      live = v.live ++ o ∷ [];
      spare = c.insert_reserved-key.new.self.capacity - slab_len
          c.insert_reserved-key.new.self;
    }) c.self.view_is)
