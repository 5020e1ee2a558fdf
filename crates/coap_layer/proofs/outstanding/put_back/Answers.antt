use Rattle.std.proofs.Common.{ap, ◌∙◌}
use Rattle.coap_layer.specs.Machine.Sendings.{open_now}
use Rattle.coap_layer.proofs.Calls.Outstanding.{back_open}
use Rattle.coap_layer.proofs.outstanding.put_back.Goals as goal

pub returns-clause-open : goal.returns-clause-open
returns-clause-open g c = ap open_now c.put_all_back.ensures.items ∙ back_open c.args.sendings.now.items
