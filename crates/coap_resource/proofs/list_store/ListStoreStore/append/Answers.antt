use Rattle.std.proofs.Common.{refl}
use Rattle.coap_resource.proofs.EntryLemmas.{unique_put, short_put, short_joined, change_append, found_is}
use Rattle.coap_resource.proofs.list_store.ListStoreStore.append.Goals as goal

pub invariant_of-self-2 : goal.invariant_of-self-2
invariant_of-self-2 g c =
    let body = rw c.deref-2.ensures at c.in_ok-body.ensures in
    let short = short_joined _ _ c.in-Some.held.now.body c.args.body.now body
    (rw c.len.ensures.value at c.in_default-append_refusal.ensures.short refl) in
    rw (c.in_ok-put_in.ensures.ok, c.counted-tally.ensures)
    (unique_put _ _ _ c.self.invariant.0, short_put _ _ _ _ c.self.invariant.1 short)

pub returns-clause-change : goal.returns-clause-change
returns-clause-change g c = λ held is.
    let was = found_is _ _ _ _ _ _ held c.in-Some.ensures c.deref.ensures.value c.self.view_is is in
    rw (← c.self.view_is)
    (change_append _ _ _ _ _ _ held _ _ c.self.invariant.0 c.in_ok-put_in.ensures.ok
    (rw c.deref-2.ensures at c.in_ok-body.ensures) was c.counted-tally.ensures)
