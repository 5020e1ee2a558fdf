use Rattle.std.proofs.Common.{◌∙◌, ap}
use Rattle.coap_arguments.proofs.Facts.PathTexts.{passed_up}
use Rattle.coap_scripts.specs.ScriptWords.{kind_word}
use Rattle.coap_scripts.specs.declared.script.words.Kind.TheVariants as kind
use Rattle.coap_scripts.proofs.NoEvent.{no_kind, no_what, no_what_word, none_call, none_set, none_stranger, none_tick}
use Rattle.coap_scripts.proofs.script.line.what.Goals as goal

pub returns-in_err-word-clause-none : goal.returns-in_err-word-clause-none
returns-in_err-word-clause-none g c =
    passed_up c.from_residual.result c.in_err-word.field-0.0 _ c.from_residual.ensures.1
    (λ is. no_what_word c.args.line.now c.in_err-word.ensures.refused.1)

pub returns-in_err-kind_named-clause-none : goal.returns-in_err-kind_named-clause-none
returns-in_err-kind_named-clause-none g c =
    passed_up c.from_residual-in_err-kind_named.result c.in_err-kind_named.field-0.0 _
    c.from_residual-in_err-kind_named.ensures.1
    (λ is. no_kind c.args.line.now c.in_ok-word.word.now c.in_ok-word.rest.now c.in_ok-word.ensures.cut
    c.in_err-kind_named.ensures.refused.1)

pub returns-in_err-request-in-Call-clause-none : goal.returns-in_err-request-in-Call-clause-none
returns-in_err-request-in-Call-clause-none g c =
    passed_up c.from_residual-in_err-request-in-Call.result c.in_err-request-in-Call.field-0.0 _
    c.from_residual-in_err-request-in-Call.ensures.1
    (λ is. no_what c.args.line.now c.in_ok-word.word.now c.in_ok-word.rest.now kind.Call c.in_ok-word.ensures.cut
    (c.in_ok-kind_named.ensures.named ∙ ap kind_word c.in-Call.is)
    (none_call c.in_ok-word.rest.now (c.in_err-request-in-Call.ensures.none is)))

pub returns-in_err-path-in-Set-clause-none : goal.returns-in_err-path-in-Set-clause-none
returns-in_err-path-in-Set-clause-none g c =
    passed_up c.from_residual-in_err-path-in-Set.result c.in_err-path-in-Set.field-0.0 _
    c.from_residual-in_err-path-in-Set.ensures.1
    (λ is. no_what c.args.line.now c.in_ok-word.word.now c.in_ok-word.rest.now kind.Set c.in_ok-word.ensures.cut
    (c.in_ok-kind_named.ensures.named ∙ ap kind_word c.in-Set.is)
    (none_set c.in_ok-word.rest.now (c.in_err-path-in-Set.ensures.none is)))

pub returns-in_err-side-in-Tick-clause-none : goal.returns-in_err-side-in-Tick-clause-none
returns-in_err-side-in-Tick-clause-none g c =
    passed_up c.from_residual-in_err-side-in-Tick.result c.in_err-side-in-Tick.field-0.0 _
    c.from_residual-in_err-side-in-Tick.ensures.1
    (λ is. no_what c.args.line.now c.in_ok-word.word.now c.in_ok-word.rest.now kind.Tick c.in_ok-word.ensures.cut
    (c.in_ok-kind_named.ensures.named ∙ ap kind_word c.in-Tick.is)
    (none_tick c.in_ok-word.rest.now c.in_err-side-in-Tick.ensures.refused.1))

pub returns-in_err-side-in-Stranger-clause-none : goal.returns-in_err-side-in-Stranger-clause-none
returns-in_err-side-in-Stranger-clause-none g c =
    passed_up c.from_residual-in_err-side-in-Stranger.result c.in_err-side-in-Stranger.field-0.0 _
    c.from_residual-in_err-side-in-Stranger.ensures.1
    (λ is. no_what c.args.line.now c.in_ok-word.word.now c.in_ok-word.rest.now kind.Stranger c.in_ok-word.ensures.cut
    (c.in_ok-kind_named.ensures.named ∙ ap kind_word c.in-Stranger.is)
    (none_stranger c.in_ok-word.rest.now (c.in_err-side-in-Stranger.ensures.none is)))
