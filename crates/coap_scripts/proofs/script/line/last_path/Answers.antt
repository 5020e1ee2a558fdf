use Rattle.coap_arguments.proofs.Facts.PathTexts.{passed_up}
use Rattle.coap_scripts.proofs.NoEvent.{no_last_word, path_refused}
use Rattle.coap_scripts.proofs.script.line.last_path.Goals as goal

pub returns-in_err-last_word-clause-none : goal.returns-in_err-last_word-clause-none
returns-in_err-last_word-clause-none g c =
    passed_up c.from_residual.result c.in_err-last_word.field-0.0 _ c.from_residual.ensures.1
    (λ is. no_last_word c.args.line.now c.in_err-last_word.ensures.refused.1)

pub returns-clause-none : goal.returns-clause-none
returns-clause-none g c =
    path_refused c.path.result c.args.line.now c.in_ok-last_word.field-0.now c.in_ok-last_word.ensures.word.0
    c.path.ensures.refused
