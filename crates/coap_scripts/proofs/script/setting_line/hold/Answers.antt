use Rattle.std.proofs.Common.{inr}
use Rattle.coap_arguments.proofs.Facts.PathTexts.{passed_up}
use Rattle.coap_scripts.proofs.SettingLines.{no_content_hold, no_front_hold, refuses_on}
use Rattle.coap_scripts.proofs.script.setting_line.hold.Goals as goal

pub returns-in_err-path-clause-refused : goal.returns-in_err-path-clause-refused
returns-in_err-path-clause-refused g c =
    passed_up c.from_residual.result c.in_err-path.field-0.0 _ c.from_residual.ensures.1
    (refuses_on _ _ c.in_err-path.field-0.0 (no_front_hold c.args.line.now) c.in_err-path.ensures.refused)

pub returns-in_err-format-clause-refused : goal.returns-in_err-format-clause-refused
returns-in_err-format-clause-refused g c =
    passed_up c.from_residual-in_err-format.result c.in_err-format.field-0.0 _ c.from_residual-in_err-format.ensures.1
    (inr (
      c.in_err-format.ensures.refused.0,
      no_content_hold c.args.line.now c.in_ok-path.path c.in_ok-path.rest.now c.in_ok-path.ensures.said
          c.in_err-format.ensures.refused.1,
    ))
