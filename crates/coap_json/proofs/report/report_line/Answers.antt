use Rattle.coap_client.specs.Object.Shown.{shown_report}
use Rattle.coap_json.specs.ReportObjects.{report_fields, report_name}
use Rattle.coap_json.proofs.Depths.{report-depth}
use Rattle.coap_json.proofs.Lines.{told_is_line}
use Rattle.coap_json.proofs.report.report_line.Goals as goal

pub returns : goal.returns
returns g c =
    told_is_line _ c.end.result _ _ _ _ c.args.at.0 _ (report_name (shown_report c.args.report.now))
    (report_fields (shown_report c.args.report.now)) c.name_of.ensures c.in_ok-writer.ensures.before
    c.in_ok-writer.ensures.tokens c.in_ok-add_report.ensures.before c.in_ok-add_report.ensures.tokens
    (report-depth (shown_report c.args.report.now)) c.end.ensures
