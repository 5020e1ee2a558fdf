use Rattle.std.proofs.Common.{rules}
use Rattle.coap_resource.proofs.EntryLemmas.{unique_put, short_put, change_put}
use Rattle.coap_resource.proofs.list_store.ListStoreStore.put.Goals as goal

pub invariant_of-self-2 : goal.invariant_of-self-2
invariant_of-self-2 g c = rw (c.in_ok-put_in.ensures.ok, c.counted-tally.ensures)
    (unique_put _ _ _ c.self.invariant.0, short_put _ _ _ _ c.self.invariant.1 (search rules))

pub returns-clause-change : goal.returns-clause-change
returns-clause-change g c =
    let put = c.in_ok-put_in.ensures.ok in
    let body = c.in_ok-body.ensures in
    let tally = c.counted-tally.ensures in
    rw (← c.self.view_is) (change_put _ _ _ _ _ c.self.invariant.0 (cc) (cc))
