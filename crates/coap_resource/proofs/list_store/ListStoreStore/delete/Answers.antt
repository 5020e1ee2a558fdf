use Rattle.coap_resource.proofs.EntryLemmas.{entries_without, unique_without, short_without, change_out}
use Rattle.coap_resource.proofs.list_store.ListStoreStore.delete.Goals as goal

pub invariant_of-self-2 : goal.invariant_of-self-2
invariant_of-self-2 g c = rw (c.take_out.ensures.items, c.counted-tally.ensures)
    (rw (entries_without c.self.inside.entries.items c.args.path.now)
    (unique_without _ _ c.self.invariant.0, short_without _ _ _ c.self.invariant.1))

pub returns-clause-change : goal.returns-clause-change
returns-clause-change g c =
    let out = c.take_out.ensures.items in
    let held_entries = entries_without c.self.inside.entries.items c.args.path.now in
    let tally = c.counted-tally.ensures in
    rw (← c.self.view_is) (change_out _ _ _ _ c.self.invariant.0 (rw out held_entries) (cc))
