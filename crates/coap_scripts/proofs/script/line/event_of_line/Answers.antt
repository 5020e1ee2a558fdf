use Rattle.coap_arguments.proofs.Facts.PathTexts.{passed_up}
use Rattle.coap_scripts.proofs.NoEvent.{no_event_word, no_moment, nothing_happens}
use Rattle.coap_scripts.proofs.script.line.event_of_line.Goals as goal

pub returns-in_err-moment-clause-none : goal.returns-in_err-moment-clause-none
returns-in_err-moment-clause-none g c =
    passed_up c.from_residual.result c.in_err-moment.field-0.0 _ c.from_residual.ensures.1
    (λ is. no_event_word c.args.line.now c.in_err-moment.ensures.refused.1)

pub returns-in_err-number-clause-none : goal.returns-in_err-number-clause-none
returns-in_err-number-clause-none g c =
    passed_up c.from_residual-in_err-number.result c.in_err-number.field-0.0 _ c.from_residual-in_err-number.ensures.1
    (λ is. no_moment c.args.line.now c.in_ok-moment.moment.now c.in_ok-moment.rest.now c.in_ok-moment.ensures.cut
    c.in_err-number.ensures.refused.1)

pub returns-in_err-what-clause-none : goal.returns-in_err-what-clause-none
returns-in_err-what-clause-none g c =
    passed_up c.from_residual-in_err-what.result c.in_err-what.field-0.0 _ c.from_residual-in_err-what.ensures.1
    (λ is. nothing_happens c.args.line.now c.in_ok-moment.moment.now c.in_ok-moment.rest.now
    c.in_ok-moment.ensures.cut (c.in_err-what.ensures.none is))
