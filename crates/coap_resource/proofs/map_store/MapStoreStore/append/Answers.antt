use Rattle.std.proofs.Common.{refl}
use Rattle.coap_resource.proofs.EntryLemmas.{change_joined, found_there, short_joined}
use Rattle.coap_resource.proofs.map_store.MapStoreStore.append.Goals as goal

pub invariant_of-self-2 : goal.invariant_of-self-2
invariant_of-self-2 g c =
    let body = rw c.deref.ensures at c.in_ok-body.ensures in
    let short = short_joined _ _ c.in-Some.held.now.body c.args.body.now body
    (rw c.len.ensures.value at c.in_default-append_refusal.ensures.short refl) in
    rw c.counted-tally.ensures (c.in_ok-put_in.ensures.ok.short _ c.self.invariant short)

pub returns-clause-change : goal.returns-clause-change
returns-clause-change g c = λ held is.
    let was = found_there _ _ _ _ _ held c.in-Some.ensures c.self.view_is is in
    rw (← c.self.view_is)
    (change_joined _ _ _ _ _ _ held _ _ c.in_ok-put_in.ensures.ok
    (rw c.deref.ensures at c.in_ok-body.ensures) was c.counted-tally.ensures)
