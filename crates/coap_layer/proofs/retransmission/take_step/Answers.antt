use Rattle.std.proofs.Common.{ap, sym, ◌∙◌}
use Rattle.coap_layer.specs.Machine.Parts.{open_before}
use Rattle.coap_layer.proofs.Calls.Outstanding.{marked_before, ended_before}
use Rattle.coap_layer.proofs.Calls.Sendings.{idle_left, copy_left, failure_left}
use Rattle.coap_layer.proofs.retransmission.take_step.Goals as goal

pub returns-in-Nothing-clause-open : goal.returns-in-Nothing-clause-open
returns-in-Nothing-clause-open g c = idle_left c.args.at c.args.step c.args.sendings.now.items (sym c.in-Nothing.is)

pub returns-in-Copy-clause-open : goal.returns-in-Copy-clause-open
returns-in-Copy-clause-open g c = copy_left c.args.at c.args.step c.args.sendings.now.items c.in-Copy.to c.in-Copy.id _
    (sym c.in-Copy.is) c.mark_all.ensures.items

pub returns-in-Failure-clause-open : goal.returns-in-Failure-clause-open
returns-in-Failure-clause-open g c = failure_left c.args.at c.args.step c.args.sendings.now.items c.in-Failure.to
    c.in-Failure.id _ (sym c.in-Failure.is) c.end_all.ensures.items

pub returns-in-Copy-clause-before : goal.returns-in-Copy-clause-before
returns-in-Copy-clause-before g c = ap open_before c.mark_all.ensures.items
    ∙ marked_before c.in-Copy.to c.in-Copy.id.0 c.args.at c.args.sendings.now.items

pub returns-in-Failure-clause-before : goal.returns-in-Failure-clause-before
returns-in-Failure-clause-before g c = ap open_before c.end_all.ensures.items
    ∙ ended_before c.in-Failure.to c.in-Failure.id.0 c.args.sendings.now.items
