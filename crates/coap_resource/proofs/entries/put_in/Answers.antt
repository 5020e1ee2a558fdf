use Rattle.std.proofs.Common.{[], ◌∷◌}
use Rattle.coap_resource.proofs.EntryLemmas.{entries_append, entries_without}
use Rattle.coap_resource.proofs.entries.put_in.Goals as goal

pub returns-clause-ok : goal.returns-clause-ok
returns-clause-ok g c =
    let k1 = entries_append c.take_out.new.entries.items
    (record { path = c.in_ok-copy.copy; held = c.args.held } ∷ []) in
    let k2 = entries_without c.reserve.new.self.items c.args.path.now in
    let e1 = c.push_within.ensures in
    let e2 = c.take_out.ensures.items in
    let e3 = c.in_ok-reserve.ensures.items in
    let e4 = c.in_ok-copy.ensures in
    cc
