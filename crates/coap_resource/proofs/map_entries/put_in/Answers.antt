use Rattle.std.proofs.Common.{◌≡◌, Some}
use Rattle.coap_resource.proofs.MapLemmas.{enters, short_insert, count_in}
use Rattle.coap_resource.proofs.map_entries.put_in.Goals as goal

pub returns-clause-ok : goal.returns-clause-ok
returns-clause-ok g c =
    let copied = c.in_ok-key.ensures in
    let key : c.in_ok-key.key ≡ c.args.path.now = cc in
    let put = c.in_ok-insert.ensures in
    let count = count_in c.args.map.now c.insert.new.self c.in_ok-key.key c.args.held _ put.old put.len in
    enters c.args.map.now c.insert.new.self c.args.path.now (Some c.args.held) (rw (← key) put.updates)
    (rw (← key) count)
    (λ limit all fits. rw put.entries (short_insert limit c.args.map.now.entries _ c.args.held fits all))
