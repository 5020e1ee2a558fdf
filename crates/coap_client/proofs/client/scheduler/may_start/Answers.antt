use Rattle.std.proofs.Common.{not, Bor, Some, ap, sym, ◌∙◌, refl}
use Rattle.std.specs.Option.{option_map}
use Rattle.coap_operations.specs.Listed.{queued_map}
use Rattle.coap_client.specs.declared.client.operation.Waiting.{Waiting}
use Rattle.coap_client.specs.Object.Held.{own_of}
use Rattle.coap_client.proofs.Facts.Calls.PassingLemmas.{may_cancel, may_first, may_nothing}
use Rattle.coap_client.proofs.client.scheduler.may_start.Goals as goal

pub returns-in-Some-Starts : goal.returns-in-Some-Starts
returns-in-Some-Starts g c =
    ap not (c.is_held_back.ensures (own_of c.args.held.now) refl)
    ∙ sym (may_first {A = g.row.A.Denot} c.args.at.0
    (own_of c.args.held.now) c.args.held.now.operations.queue c.in-Some-Starts.waiting.now
    (sym c.waiting.ensures ∙ ap (option_map (queued_map (λ (w : Bor (Waiting g.row.A.Denot)). w.now)))
    (c.in-Some-Starts.is ∙ ap (λ x. Some x) c.in-Some-Starts.field-0-is)))

pub returns-in-Some-Cancels : goal.returns-in-Some-Cancels
returns-in-Some-Cancels g c =
    may_cancel {A = g.row.A.Denot} c.args.at.0
    (own_of c.args.held.now) c.args.held.now.operations.queue c.in-Some-Cancels.field-0-0
    (sym c.waiting.ensures ∙ ap (option_map (queued_map (λ (w : Bor (Waiting g.row.A.Denot)). w.now)))
    (c.in-Some-Cancels.is ∙ ap (λ x. Some x) c.in-Some-Cancels.field-0-is))

pub returns-in-None : goal.returns-in-None
returns-in-None g c =
    may_nothing {A = g.row.A.Denot} c.args.at.0 (own_of c.args.held.now) c.args.held.now.operations.queue
    (sym c.waiting.ensures ∙ ap (option_map (queued_map (λ (w : Bor (Waiting g.row.A.Denot)). w.now))) c.in-None.is)
