use Rattle.std.proofs.Common.{◌||◌, ap, sym, ◌∙◌}
use Rattle.std.specs.Prelude.{option_to_list}
use Rattle.std.specs.List.{list_any}
use Rattle.std.specs.Option.{option_map}
use Rattle.coap_operations.specs.Listed.{is_cancel}
use Rattle.coap_client.specs.Object.Shown.{shown_operation}
use Rattle.coap_client.proofs.Calls.WaitingLemmas.{cancels_are}
use Rattle.coap_client.proofs.client.observations.is_cancelled.Goals as goal

pub returns-else-is_cancel_of : goal.returns-else-is_cancel_of
returns-else-is_cancel_of g c =
    c.has_cancel.ensures
    ∙ sym (cancels_are {A = g.row.A.Denot} c.args.number
    (option_to_list (option_map shown_operation c.args.held.now.operations.running))
    c.args.held.now.operations.queue
    ∙ ap (λ b. b || list_any (is_cancel c.args.number) c.args.held.now.operations.queue)
    (sym c.is_cancel_of.ensures ∙ c.if-is_cancel_of.false))
