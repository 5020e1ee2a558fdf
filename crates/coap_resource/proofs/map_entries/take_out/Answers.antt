use Rattle.std.proofs.Common.{None}
use Rattle.coap_resource.proofs.MapLemmas.{enters, short_remove, count_out}
use Rattle.coap_resource.proofs.map_entries.take_out.Goals as goal

pub returns : goal.returns
returns g c =
    let gone = c.remove-gone.ensures in
    enters c.args.map.now c.remove-gone.new.self c.args.path.now None gone.updates
    (count_out c.args.map.now c.remove-gone.new.self c.args.path.now _ gone.value gone.len)
    (λ limit all fits. rw gone.entries (short_remove limit _ c.args.map.now.entries all))
