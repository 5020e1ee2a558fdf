use Rattle.coap_resource.proofs.EntryLemmas.{short_find, within_find}
use Rattle.coap_resource.proofs.list_store.ListStoreStore.get.Goals as goal

pub returns-clause-short : goal.returns-clause-short
returns-clause-short g c = rw (← c.self.view_is) (short_find _ _ _ c.self.invariant.1)

pub returns-clause-within : goal.returns-clause-within
returns-clause-within g c = rw (← c.self.view_is) (within_find _ _ _ c.self.invariant.1)
