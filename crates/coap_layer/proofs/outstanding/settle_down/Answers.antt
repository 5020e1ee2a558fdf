use Rattle.std.proofs.Common.{ap, ◌∙◌}
use Rattle.coap_layer.specs.Machine.Parts.{open_before}
use Rattle.coap_layer.specs.Machine.Sendings.{open_now}
use Rattle.coap_layer.proofs.Calls.Outstanding.{dropped_open, settled_open, settled_before}
use Rattle.coap_layer.proofs.outstanding.settle_down.Goals as goal

pub returns-clause-open : goal.returns-clause-open
returns-clause-open g c = ap open_now c.note_all.ensures.items
    ∙ (settled_open c.drop_ended.new.sendings.items
    ∙ (ap open_now c.drop_ended.ensures.items ∙ dropped_open c.args.sendings.now.items))

pub returns-clause-before : goal.returns-clause-before
returns-clause-before g c = ap open_before c.note_all.ensures.items
    ∙ (settled_before c.drop_ended.new.sendings.items
    ∙ (ap open_now c.drop_ended.ensures.items ∙ dropped_open c.args.sendings.now.items))
