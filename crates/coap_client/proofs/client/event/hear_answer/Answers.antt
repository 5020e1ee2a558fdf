use Rattle.std.proofs.Common.{Some, ap, rules, sym, ◌∙◌}
use Rattle.std.specs.Option.{option_map}
use Rattle.coap_client.specs.Object.Held.{own_of}
use Rattle.coap_client.specs.Object.Shown.{shown_operation}
use Rattle.coap_client.proofs.Calls.AnsweringLemmas.{answered_cancelling, answered_dropped, answered_none}
use Rattle.coap_client.proofs.client.event.hear_answer.Goals as goal

pub returns-in-None-clause-happens : goal.returns-in-None-clause-happens
returns-in-None-clause-happens g c =
    let s = own_of c.args.parts.now.held in
    answered_none c.args.parts.now.asker.state s c.args.now.at.0 c.args.now.word c.args.m.now _
    (ap (option_map shown_operation) (sym c.take_running.ensures.value ∙ c.in-None.is))
    (ap (λ o. own_of (record c.args.parts.now.held { operations = o })) c.take_running.ensures.after)

pub returns-in-Some-Dropped-clause-happens : goal.returns-in-Some-Dropped-clause-happens
returns-in-Some-Dropped-clause-happens g c =
    let s = own_of c.args.parts.now.held in
    answered_dropped c.args.parts.now.asker.state s c.args.now.at.0 c.args.now.word c.args.m.now _
    (ap (option_map shown_operation) (sym c.take_running.ensures.value
    ∙ (c.in-Some-Dropped.is ∙ ap (λ o. Some o) c.in-Some-Dropped.field-0-is)))
    (ap (λ o. own_of (record c.args.parts.now.held { operations = o })) c.take_running.ensures.after)

pub returns-in-Some-Cancelling-clause-happens : goal.returns-in-Some-Cancelling-clause-happens
returns-in-Some-Cancelling-clause-happens g c =
    let s = own_of c.args.parts.now.held in
    answered_cancelling c.args.parts.now.asker.state s c.args.now.at.0 c.args.now.word c.args.m.now
    c.in-Some-Cancelling.number
    c.end_observation.new.parts.asker.state _
    (ap (option_map shown_operation) (sym c.take_running.ensures.value
    ∙ (c.in-Some-Cancelling.is ∙ ap (λ o. Some o) c.in-Some-Cancelling.field-0-is))) (search rules) (search rules)
