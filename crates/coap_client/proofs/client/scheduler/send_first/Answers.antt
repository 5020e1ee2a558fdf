use Rattle.std.proofs.Common.{Bor, Some, map, ap, sym, subst, ◌∙◌}
use Rattle.std.specs.Option.{option_map}
use Rattle.coap_operations.specs.Listed.{queued_map}
use Rattle.coap_operations.specs.declared.queued.Queued.TheVariants.{Starts, Cancels}
use Rattle.coap_client.specs.declared.client.operation.Waiting.{Waiting}
use Rattle.coap_client.specs.Requests.{message_of}
use Rattle.coap_client.specs.Object.Sends.{Sends}
use Rattle.coap_client.specs.Object.Shown.{shown_observation}
use Rattle.coap_client.proofs.Calls.WaitingLemmas.{if_map}
use Rattle.coap_client.proofs.Facts.Calls.PassingLemmas.{first_shown}
use Rattle.coap_client.proofs.client.scheduler.send_first.Goals as goal

pub returns-in-Some-Starts-clause-sends : goal.returns-in-Some-Starts-clause-sends
returns-in-Some-Starts-clause-sends g c =
    let x = c.args.asker.now.state in
    let y = c.send_waiting.new.asker.state in
    let os = map (shown_observation {A = g.row.A.Denot}) c.args.held.now.operations.live in
    if_map c.send_waiting.result (λ token h op first. subst
    (λ o. Sends x c.args.now.at.0 (message_of os o) c.args.now.word token y)
    (sym (first_shown {A = g.row.A.Denot} c.args.held.now.operations.queue (Starts c.in-Some-Starts.waiting.now) op
    (sym c.waiting.ensures ∙ ap (option_map (queued_map (λ (w : Bor (Waiting g.row.A.Denot)). w.now)))
    (c.in-Some-Starts.is ∙ ap (λ x. Some x) c.in-Some-Starts.field-0-is)) first)) (h os))
    c.send_waiting.ensures.sends

pub returns-in-Some-Cancels-clause-sends : goal.returns-in-Some-Cancels-clause-sends
returns-in-Some-Cancels-clause-sends g c =
    let x = c.args.asker.now.state in
    let y = c.cancel.new.asker.state in
    let os = map (shown_observation {A = g.row.A.Denot}) c.args.held.now.operations.live in
    if_map c.cancel.result (λ token h op first. subst (λ o. Sends x c.args.now.at.0 (message_of os o) c.args.now.word
    token y)
    (sym (first_shown {A = g.row.A.Denot} c.args.held.now.operations.queue (Cancels c.in-Some-Cancels.number) op
    (sym c.waiting.ensures ∙ ap (option_map (queued_map (λ (w : Bor (Waiting g.row.A.Denot)). w.now)))
    (c.in-Some-Cancels.is ∙ ap (λ x. Some x) c.in-Some-Cancels.field-0-is)) first)) h) c.cancel.ensures.sends
