use Rattle.std.proofs.Common.{◌+◌, filter, length, map, ap, ◌∙◌}
use Rattle.std.specs.Prelude.{nat_le, option_to_list}
use Rattle.std.specs.Option.{option_map}
use Rattle.coap_client.specs.declared.limits.TheConstants.{MAX_OBSERVATIONS}
use Rattle.coap_client.specs.Queue.{is_registration}
use Rattle.coap_client.specs.Object.Shown.{shown_operation, shown_queued}
use Rattle.coap_client.proofs.Calls.WaitingLemmas.{observed_is}
use Rattle.coap_client.proofs.client.observations.are_watches_full.Goals as goal

pub returns : goal.returns
returns g c =
    let o = c.args.held.now.operations in
    let runs = length (filter is_registration (option_to_list
    (option_map (shown_operation {A = g.row.A.Denot}) o.running))) in
    let waits = length (filter is_registration (map (shown_queued {A = g.row.A.Denot}) o.queue)) in
    c.reach.ensures
    ∙ (ap (λ a. nat_le MAX_OBSERVATIONS (a + c.registrations-waiting.result + c.live_len.result))
    c.running_registrations-running.ensures.count
    ∙ (ap (λ b. nat_le MAX_OBSERVATIONS (runs + b + c.live_len.result)) c.registrations-waiting.ensures.count
    ∙ (ap (λ l. nat_le MAX_OBSERVATIONS (runs + waits + l)) c.live_len.ensures
    ∙ ap (nat_le MAX_OBSERVATIONS) (observed_is {A = g.row.A.Denot}
    (option_to_list (option_map shown_operation o.running)) o.queue o.live))))
