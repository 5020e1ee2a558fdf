use Rattle.coap_resource.proofs.EntryLemmas.{change_enters}
use Rattle.coap_resource.proofs.map_store.MapStoreStore.delete.Goals as goal

pub invariant_of-self-2 : goal.invariant_of-self-2
invariant_of-self-2 g c = rw c.counted-tally.ensures (c.take_out.ensures.short _ c.self.invariant tt)

pub returns-clause-change : goal.returns-clause-change
returns-clause-change g c = rw (← c.self.view_is) (change_enters _ _ _ _ _ c.take_out.ensures c.counted-tally.ensures)
