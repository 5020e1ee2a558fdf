use Rattle.coap_arguments.proofs.Facts.PathTexts.{passed_up}
use Rattle.coap_scripts.proofs.SettingLines.{no_content, no_format}
use Rattle.coap_scripts.proofs.script.setting_line.content.Goals as goal

pub returns-in_err-digits-clause-refused : goal.returns-in_err-digits-clause-refused
returns-in_err-digits-clause-refused c =
    passed_up c.from_residual.result c.in_err-digits.field-0.0 _ c.from_residual.ensures.1
    (c.in_err-digits.ensures.refused.0, no_content c.args.line.now c.in_err-digits.ensures.refused.1)

pub returns-in_err-format-clause-refused : goal.returns-in_err-format-clause-refused
returns-in_err-format-clause-refused c =
    passed_up c.from_residual-in_err-format.result c.in_err-format.field-0.0 _ c.from_residual-in_err-format.ensures.1 (
      c.in_err-format.ensures.refused.0,
      no_format c.args.line.now c.in_ok-digits.digits.now c.in_ok-digits.body.now c.in_ok-digits.ensures.cut
          c.in_err-format.ensures.refused.1,
    )
