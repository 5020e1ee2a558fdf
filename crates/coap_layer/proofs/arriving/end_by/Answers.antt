use Rattle.std.proofs.Common.{ap, sym, ◌∙◌}
use Rattle.coap_layer.specs.Machine.Parts.{open_before}
use Rattle.coap_layer.specs.Machine.Sendings.{open_now}
use Rattle.coap_layer.proofs.Calls.Outstanding.{ended_by, ended_open, ended_before}
use Rattle.coap_layer.proofs.arriving.end_by.Goals as goal

pub returns-then-ends-clause-open : goal.returns-then-ends-clause-open
returns-then-ends-clause-open g c =
    ended_by c.args.from c.args.arriving _ _ (sym c.ends.ensures ∙ c.if-ends.true)
    (ap open_now c.end_all.ensures.items ∙ ended_open c.args.from c.args.arriving.id.0 c.args.sendings.now.items)

pub returns-then-ends-clause-before : goal.returns-then-ends-clause-before
returns-then-ends-clause-before g c = ap open_before c.end_all.ensures.items
    ∙ ended_before c.args.from c.args.arriving.id.0 c.args.sendings.now.items
