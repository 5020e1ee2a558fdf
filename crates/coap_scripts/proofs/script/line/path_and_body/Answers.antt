use Rattle.std.proofs.Common.{inl, inr, rules}
use Rattle.coap_arguments.proofs.Facts.PathTexts.{passed_up}
use Rattle.coap_scripts.proofs.NoEvent.{no_path_and_body, no_path_word, only_unreadable}
use Rattle.coap_scripts.proofs.ScriptLines.{none_left}
use Rattle.coap_scripts.proofs.script.line.path_and_body.Goals as goal

pub returns-in_err-word-clause-none : goal.returns-in_err-word-clause-none
returns-in_err-word-clause-none g c =
    passed_up c.from_residual.result c.in_err-word.field-0.0 _ c.from_residual.ensures.1
    (λ is. no_path_word c.args.line.now c.in_err-word.ensures.refused.1)

pub returns-in_err-path-clause-none : goal.returns-in_err-path-clause-none
returns-in_err-path-clause-none g c =
    passed_up c.from_residual-in_err-path.result c.in_err-path.field-0.0 _ c.from_residual-in_err-path.ensures.1
    (λ is. no_path_and_body c.args.line.now c.in_ok-word.word.now c.in_ok-word.body.now c.in_ok-word.ensures.cut
    (inr (only_unreadable _ c.in_ok-word.word.now is c.in_err-path.ensures.refused)))

pub returns-then-is_empty-clause-none : goal.returns-then-is_empty-clause-none
returns-then-is_empty-clause-none g c = λ is.
    no_path_and_body c.args.line.now c.in_ok-word.word.now c.in_ok-word.body.now c.in_ok-word.ensures.cut
    (inl (none_left c.in_ok-word.word.now c.is_empty.result c.is_empty.ensures (search (rules, c.if-is_empty.true))))
