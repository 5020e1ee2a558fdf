use Rattle.coap_arguments.proofs.Facts.PathTexts.{passed_up}
use Rattle.coap_scripts.proofs.NoEvent.{no_method, no_parts, no_request_word}
use Rattle.coap_scripts.proofs.script.line.request.Goals as goal

pub returns-in_err-word-clause-none : goal.returns-in_err-word-clause-none
returns-in_err-word-clause-none g c =
    passed_up c.from_residual.result c.in_err-word.field-0.0 _ c.from_residual.ensures.1
    (λ is. no_request_word c.args.line.now c.in_err-word.ensures.refused.1)

pub returns-in_err-method-clause-none : goal.returns-in_err-method-clause-none
returns-in_err-method-clause-none g c =
    passed_up c.from_residual-in_err-method.result c.in_err-method.field-0.0 _ c.from_residual-in_err-method.ensures.1
    (λ is. no_method c.args.line.now c.in_ok-word.word.now c.in_ok-word.rest.now c.in_ok-word.ensures.cut
    c.in_err-method.ensures.refused.1)

pub returns-in_err-path-clause-none : goal.returns-in_err-path-clause-none
returns-in_err-path-clause-none g c =
    passed_up c.from_residual-in_err-path.result c.in_err-path.field-0.0 _ c.from_residual-in_err-path.ensures.1
    (λ is. no_parts c.args.line.now c.in_ok-word.word.now c.in_ok-word.rest.now c.in_ok-method.method
    c.in_ok-word.ensures.cut c.in_ok-method.ensures.named (c.in_err-path.ensures.none is))
