use Rattle.std.proofs.Common.{◌-◌, Some, length, set, slice_get, ap, sym, subst, refl, ◌∙◌, arith}
use Rattle.std.proofs.lemmas.Option.{slice_get_read}
use Rattle.slab.specs.Slab.{get}
use Rattle.coap_operations.specs.Keys.{live_of, queue_of, running_of}
use Rattle.coap_operations.specs.Listed.{Listed}
use Rattle.std.proofs.Common.{IsSome}
use Rattle.std.specs.Vec.{vec_capacity}
use Rattle.slab.specs.Slab.{with_value}
use Rattle.slab.proofs.SlabLemmas.{Updates-with_value}
use Rattle.coap_operations.specs.declared.entry.Entry.TheVariants.{Observation}
use Rattle.coap_operations.specs.Keys.{observation_in}
use Rattle.coap_operations.proofs.KeyChanges.{listed, listed_is, live_there, same_queue, same_running, set_count}
use Rattle.coap_operations.proofs.KeyChanges.{set_live}
use Rattle.coap_operations.proofs.KeyLists.{living_at, living_len, look_live}
use Rattle.coap_operations.proofs.operations.Operations.live_mut.Goals as goal

pub index-key-requires : goal.index-key-requires
index-key-requires g c =
    let s = c.self.inside in
    let at = get s.entries in
    let a = living_len at s.queue.items s.running s.live.items c.self.invariant in
    let b = ap (λ (v : Listed g.row.W.Denot g.row.O.Denot). length v.live) c.self.view_is in
    let r = c.requires in
    omega (arith, a, b, r)

pub index_mut-requires : goal.index_mut-requires
index_mut-requires g c =
    let s = c.self.inside in
    let at = get s.entries in
    let a = living_len at s.queue.items s.running s.live.items c.self.invariant in
    let b = ap (λ (v : Listed g.row.W.Denot g.row.O.Denot). length v.live) c.self.view_is in
    let r = c.requires in
    let k = c.index-key.result.now in
    let p = c.args.place in
    let found = slice_get_read s.live.items (length s.live.items) p k refl
    (omega (arith, a, b, r)) c.index-key.ensures in
    let there = live_there at s.queue.items s.running s.live.items c.self.invariant p k found in
    subst IsSome (sym there.1) refl

pub observation_mut-requires : goal.observation_mut-requires
observation_mut-requires g c =
    let s = c.self.inside in
    let at = get s.entries in
    let a = living_len at s.queue.items s.running s.live.items c.self.invariant in
    let b = ap (λ (v : Listed g.row.W.Denot g.row.O.Denot). length v.live) c.self.view_is in
    let r = c.requires in
    let k = c.index-key.result.now in
    let p = c.args.place in
    let found = slice_get_read s.live.items (length s.live.items) p k refl
    (omega (arith, a, b, r)) c.index-key.ensures in
    let there = live_there at s.queue.items s.running s.live.items c.self.invariant p k found in
    let same = sym c.index_mut.ensures.value ∙ there.1 in
    (there.0, cc same)

pub returns : goal.returns
returns g c =
    let s = c.self.inside in
    let at = get s.entries in
    let a = living_len at s.queue.items s.running s.live.items c.self.invariant in
    let b = ap (λ (v : Listed g.row.W.Denot g.row.O.Denot). length v.live) c.self.view_is in
    let r = c.requires in
    let k = c.index-key.result.now in
    let p = c.args.place in
    let found = slice_get_read s.live.items (length s.live.items) p k refl
    (omega (arith, a, b, r)) c.index-key.ensures in
    let there = live_there at s.queue.items s.running s.live.items c.self.invariant p k found in
    let value = c.index_mut.ensures.value ∙ ap (λ e. Some e) c.observation_mut.ensures.value in
    let has = subst IsSome (sym there.1) refl in (
      (
        refl,
        λ w.
            let e = Observation w in
            let new = with_value s.entries k e in
            let u = Updates-with_value s.entries k e has in
            ap (λ n. listed (queue_of (get new) s.queue.items) (running_of (get new) s.running)
            (live_of (get new) s.live.items) (s.entries.capacity - n) (vec_capacity s.live))
            (set_count s.entries k e there.1)
            ∙ (listed_is _ _ _ _ _ _ _ _
            (same_queue at (get new) s.queue.items s.running s.live.items k p found u.others c.self.invariant)
            (same_running at (get new) s.queue.items s.running s.live.items k p found u.others c.self.invariant)
            (set_live at (get new) s.queue.items s.running s.live.items k p found u.others c.self.invariant w u.changed)
            ∙ ap (λ (v : Listed g.row.W.Denot g.row.O.Denot). record v { live = set v.live p w }) c.self.view_is),
      ),
      record {
        writes_back = tt;
        value = ap (λ (v : Listed g.row.W.Denot g.row.O.Denot). slice_get v.live p) (sym c.self.view_is)
            ∙ (living_at at s.queue.items s.running s.live.items c.self.invariant p
            ∙ (ap (look_live at) found ∙ ap observation_in value));
      },
    )
