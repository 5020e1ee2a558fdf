use Rattle.std.proofs.Common.{sym}
use Rattle.coap_resource.proofs.MapLemmas.{found}
use Rattle.coap_resource.proofs.map_entries.find.Goals as goal

pub returns : goal.returns
returns g c = rw c.get.ensures.value (sym (found c.args.map.now.entries c.args.path.now))
