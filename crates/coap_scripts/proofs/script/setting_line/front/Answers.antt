use Rattle.std.proofs.Common.{inr, refl}
use Rattle.coap_arguments.proofs.Facts.PathTexts.{passed_up}
use Rattle.coap_scripts.proofs.ScriptLines.{none_left}
use Rattle.coap_scripts.proofs.SettingLines.{no_empty_front, no_front, no_path_front, refuses_on}
use Rattle.coap_scripts.proofs.script.setting_line.front.Goals as goal

pub returns-in_err-word-clause-refused : goal.returns-in_err-word-clause-refused
returns-in_err-word-clause-refused g c =
    passed_up c.from_residual.result c.in_err-word.field-0.0 _ c.from_residual.ensures.1
    (inr (c.in_err-word.ensures.refused.0, no_front c.args.line.now c.in_err-word.ensures.refused.1))

pub returns-then-is_empty-clause-refused : goal.returns-then-is_empty-clause-refused
returns-then-is_empty-clause-refused g c = inr (
  refl,
  no_empty_front c.args.line.now c.in_ok-word.word.now c.in_ok-word.rest.now c.in_ok-word.ensures.cut
      (none_left c.in_ok-word.word.now c.is_empty.result c.is_empty.ensures c.if-is_empty.true),
)

pub returns-in_err-path-clause-refused : goal.returns-in_err-path-clause-refused
returns-in_err-path-clause-refused g c =
    passed_up c.from_residual-in_err-path.result c.in_err-path.field-0.0 _ c.from_residual-in_err-path.ensures.1
    (refuses_on _ _ c.in_err-path.field-0.0
    (no_path_front c.args.line.now c.in_ok-word.word.now c.in_ok-word.rest.now c.in_ok-word.ensures.cut)
    c.in_err-path.ensures.refused)
