use Rattle.coap_resource.proofs.EntryLemmas.{lists}
use Rattle.coap_resource.proofs.list_store.ListStoreStore.path_at.Goals as goal

pub returns-clause-all : goal.returns-clause-all
returns-clause-all g c = rw (← c.self.view_is) (lists _)
