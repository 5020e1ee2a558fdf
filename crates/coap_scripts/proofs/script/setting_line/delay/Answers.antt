use Rattle.std.proofs.Common.{inr}
use Rattle.coap_arguments.proofs.Facts.PathTexts.{passed_up}
use Rattle.coap_scripts.proofs.SettingLines.{no_front_delay, no_number_delay, refuses_on}
use Rattle.coap_scripts.proofs.script.setting_line.delay.Goals as goal

pub returns-in_err-path-clause-refused : goal.returns-in_err-path-clause-refused
returns-in_err-path-clause-refused g c =
    passed_up c.from_residual.result c.in_err-path.field-0.0 _ c.from_residual.ensures.1
    (refuses_on _ _ c.in_err-path.field-0.0 (no_front_delay c.args.line.now) c.in_err-path.ensures.refused)

pub returns-in_err-ms-clause-refused : goal.returns-in_err-ms-clause-refused
returns-in_err-ms-clause-refused g c =
    passed_up c.from_residual-in_err-ms.result c.in_err-ms.field-0.0 _ c.from_residual-in_err-ms.ensures.1
    (inr (
      c.in_err-ms.ensures.refused.0,
      no_number_delay c.args.line.now c.in_ok-path.path c.in_ok-path.rest.now c.in_ok-path.ensures.said
          c.in_err-ms.ensures.refused.1,
    ))
