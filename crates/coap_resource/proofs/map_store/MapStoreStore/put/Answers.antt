use Rattle.std.proofs.Common.{rules}
use Rattle.coap_resource.proofs.EntryLemmas.{change_enters}
use Rattle.coap_resource.proofs.map_store.MapStoreStore.put.Goals as goal

pub invariant_of-self-2 : goal.invariant_of-self-2
invariant_of-self-2 g c = rw c.counted-tally.ensures (c.in_ok-put_in.ensures.ok.short _ c.self.invariant (search rules))

pub returns-clause-change : goal.returns-clause-change
returns-clause-change g c =
    let put = c.in_ok-put_in.ensures.ok in
    let body = c.in_ok-body.ensures in
    let tally = c.counted-tally.ensures in
    rw (← c.self.view_is) (change_enters _ _ _ _ _ (rw body at put) tally)
