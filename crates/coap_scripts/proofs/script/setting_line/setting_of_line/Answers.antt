use Rattle.std.proofs.Common.{◌∙◌, ap, sym, inr}
use Rattle.coap_arguments.proofs.Facts.PathTexts.{passed_up}
use Rattle.coap_scripts.specs.Settings.{setting_word}
use Rattle.coap_scripts.specs.declared.script.setting_words.SettingKind.TheVariants as kind
use Rattle.coap_scripts.proofs.SettingLines.{none_named, none_of, none_uncut, refuses_on}
use Rattle.coap_scripts.proofs.script.setting_line.setting_of_line.Goals as goal

pub returns-in_err-word-clause-refused : goal.returns-in_err-word-clause-refused
returns-in_err-word-clause-refused g c =
    passed_up c.from_residual.result c.in_err-word.field-0.0 _ c.from_residual.ensures.1 (inr (
      c.in_err-word.ensures.refused.0,
      none_uncut c.args.line.now (sym c.is_comment.ensures ∙ c.if-is_comment.false) c.in_err-word.ensures.refused.1,
    ))

pub returns-in_err-setting_named-clause-refused : goal.returns-in_err-setting_named-clause-refused
returns-in_err-setting_named-clause-refused g c =
    passed_up c.from_residual-in_err-setting_named.result c.in_err-setting_named.field-0.0 _
    c.from_residual-in_err-setting_named.ensures.1 (inr (
      c.in_err-setting_named.ensures.refused.0,
      none_named c.args.line.now c.in_ok-word.word.now c.in_ok-word.rest.now
          (sym c.is_comment.ensures ∙ c.if-is_comment.false) c.in_ok-word.ensures.cut
          c.in_err-setting_named.ensures.refused.1,
    ))

pub returns-in_err-path-in-Hold-clause-refused : goal.returns-in_err-path-in-Hold-clause-refused
returns-in_err-path-in-Hold-clause-refused g c =
    passed_up c.from_residual-in_err-path-in-Hold.result c.in_err-path-in-Hold.field-0.0 _
    c.from_residual-in_err-path-in-Hold.ensures.1
    (refuses_on _ _ c.in_err-path-in-Hold.field-0.0
    (none_of kind.Hold c.args.line.now c.in_ok-word.word.now c.in_ok-word.rest.now
    (sym c.is_comment.ensures ∙ c.if-is_comment.false) c.in_ok-word.ensures.cut
    (c.in_ok-setting_named.ensures.named ∙ ap setting_word c.in-Hold.is))
    c.in_err-path-in-Hold.ensures.refused)

pub returns-in_err-path-in-Delay-clause-refused : goal.returns-in_err-path-in-Delay-clause-refused
returns-in_err-path-in-Delay-clause-refused g c =
    passed_up c.from_residual-in_err-path-in-Delay.result c.in_err-path-in-Delay.field-0.0 _
    c.from_residual-in_err-path-in-Delay.ensures.1
    (refuses_on _ _ c.in_err-path-in-Delay.field-0.0
    (none_of kind.Delay c.args.line.now c.in_ok-word.word.now c.in_ok-word.rest.now
    (sym c.is_comment.ensures ∙ c.if-is_comment.false) c.in_ok-word.ensures.cut
    (c.in_ok-setting_named.ensures.named ∙ ap setting_word c.in-Delay.is))
    c.in_err-path-in-Delay.ensures.refused)
