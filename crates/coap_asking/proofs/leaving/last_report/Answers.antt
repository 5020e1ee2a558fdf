use Rattle.std.proofs.Common.{◌∙◌, Some, sym}
use Rattle.coap_client.specs.Object.Shown.{shown_report}
use Rattle.coap_asking.proofs.ObservedCalls.{written_taken}
use Rattle.coap_asking.proofs.WatchedCalls.{more_value}
use Rattle.coap_asking.proofs.leaving.last_report.Goals as goal

pub returns-then-branch-clause-more : goal.returns-then-branch-clause-more
returns-then-branch-clause-more g c =
    more_value c.args.options.now _ _ _ c.args.now _ _ _ _ _ c.in-Some.ensures.some
    (sym c.in_ok-print_value.ensures.value ∙ c.if-branch.true) c.in_ok-count.ensures
    (written_taken c.args.options.now c.args.heard.now.since.0 c.args.heard.now.values c.args.now _ _
    (Some (shown_report c.in-Some.report)) _ _ c.is_over-is_over.ensures c.of.ensures
    c.in_ok-print_value.ensures.written)
