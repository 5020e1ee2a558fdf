use Rattle.std.proofs.Common.{◌++◌, [], ◌∷◌, length, ap, sym, subst, refl, ◌∙◌, arith}
use Rattle.slab.specs.Slab.{get}
use Rattle.coap_operations.specs.declared.queued.Queued.TheVariants as queued
use Rattle.coap_operations.specs.Keys.{EachOnce, queue_of}
use Rattle.coap_operations.specs.Listed.{Listed}
use Rattle.coap_operations.proofs.KeyChanges.{listed_is}
use Rattle.coap_operations.proofs.KeyLists.{cancel_once, cancel_queued, waiting_len}
use Rattle.coap_operations.proofs.operations.Operations.push_cancel.Goals as goal

pub push-requires : goal.push-requires
push-requires g c =
    let a = waiting_len (get c.self.inside.entries) c.self.inside.queue.items c.self.inside.running
    c.self.inside.live.items c.self.invariant in
    let b = ap (λ (v : Listed g.row.W.Denot g.row.O.Denot). length v.queue) c.self.view_is in
    let r = c.requires in
    (omega arith, omega (arith, a, b, r))

pub invariant_of-self : goal.invariant_of-self
invariant_of-self g c =
    let s = c.self.inside in
    subst (λ q. EachOnce (get s.entries) q s.running s.live.items) (sym c.push.ensures.items)
    (cancel_once (get s.entries) c.args.number s.queue.items s.running s.live.items c.self.invariant)

pub returns : goal.returns
returns g c =
    let s = c.self.inside in
    listed_is _ _ _ _ _ _ _ _ (ap (queue_of (get s.entries)) c.push.ensures.items
    ∙ cancel_queued (get s.entries) c.args.number s.queue.items) refl refl
    ∙ ap (λ (v : Listed g.row.W.Denot g.row.O.Denot). record v { queue = v.queue ++ queued.Cancels c.args.number ∷ [] })
    c.self.view_is
