use Rattle.coap_resource.proofs.EntryLemmas.{short_find, within_find}
use Rattle.coap_resource.proofs.map_store.MapStoreStore.get.Goals as goal

pub returns-clause-short : goal.returns-clause-short
returns-clause-short g c = rw (← c.self.view_is) (short_find _ _ _ c.self.invariant)

pub returns-clause-within : goal.returns-clause-within
returns-clause-within g c = rw (← c.self.view_is) (within_find _ _ _ c.self.invariant)
