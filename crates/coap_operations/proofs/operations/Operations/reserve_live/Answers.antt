use Rattle.std.proofs.Common.{length, ap, rules}
use Rattle.slab.specs.Slab.{get}
use Rattle.coap_operations.proofs.KeyLists.{living_len}
use Rattle.coap_operations.proofs.operations.Operations.reserve_live.Goals as goal

pub returns-clause-room : goal.returns-clause-room
returns-clause-room g c =
    let s = c.self.inside in
    let a = living_len (get s.entries) s.queue.items s.running s.live.items c.self.invariant in
    let i = ap (λ l. length l) c.reserve.ensures.items in
    let o = c.reserve.ensures.ok in
    search rules

pub returns-clause-had : goal.returns-clause-had
returns-clause-had g c less =
    let s = c.self.inside in
    let a = living_len (get s.entries) s.queue.items s.running s.live.items c.self.invariant in
    let e = c.reserve.ensures.succeeds in
    search rules
