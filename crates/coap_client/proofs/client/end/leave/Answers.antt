use Rattle.std.proofs.Common.{◌≤◌, map, not, filter, ap, rules, subst, sym, ◌∙◌}
use Rattle.std.specs.Prelude.{◌==◌}
use Rattle.std.specs.Option.{option_map}
use Rattle.coap_operations.specs.Listed.{Listed, without_fetch}
use Rattle.coap_client.specs.declared.client.operation.Observation as B
use Rattle.coap_client.specs.declared.client.operation.Waiting.{Waiting}
use Rattle.coap_client.specs.Own.{Observation}
use Rattle.coap_client.specs.Observations.{observation_of}
use Rattle.coap_client.specs.Places.{in_observations}
use Rattle.coap_client.specs.Object.Happens.{IsDone, releasing}
use Rattle.coap_client.specs.Object.Held.{own_of}
use Rattle.coap_client.specs.Object.Shown.{shown_observation, shown_operation}
use Rattle.coap_client.proofs.Calls.HeldLemmas.{dropped_shown, over_is, releasing_is, seen_cancels}
use Rattle.coap_client.proofs.client.end.leave.Goals as goal

pub remove-requires : goal.remove-requires
remove-requires g c =
    let live = ap (λ (v : Listed (Waiting g.row.A.Denot) (B.Observation g.row.A.Denot)). v.live) (c.drop_fetch.ensures)
    ∙ ap (λ (v : Listed (Waiting g.row.A.Denot) (B.Observation g.row.A.Denot)). v.live) c.drop_cancel.ensures in
    subst (λ l. in_observations c.args.number (map (shown_observation {A = g.row.A.Denot}) l) ≤ 1)
    (sym live) c.requires.one

pub returns-clause-own : goal.returns-clause-own
returns-clause-own g c =
    let n = c.args.number in
    let queue = ap (λ (v : Listed (Waiting g.row.A.Denot) (B.Observation g.row.A.Denot)). v.queue)
    c.remove.ensures.same
    ∙ (ap (λ (v : Listed (Waiting g.row.A.Denot) (B.Observation g.row.A.Denot)). v.queue) c.drop_fetch.ensures
    ∙ ap (λ (v : Listed (Waiting g.row.A.Denot) (B.Observation g.row.A.Denot)). v.queue) c.drop_cancel.ensures) in
    let running = ap (λ (v : Listed (Waiting g.row.A.Denot) (B.Observation g.row.A.Denot)). v.running)
    c.remove.ensures.same ∙ (ap (λ (v : Listed (Waiting g.row.A.Denot) (B.Observation g.row.A.Denot)). v.running)
    c.drop_fetch.ensures ∙ ap (λ (v : Listed (Waiting g.row.A.Denot) (B.Observation g.row.A.Denot)). without_fetch n
    v.running) c.drop_cancel.ensures) in
    let live = ap (λ (v : Listed (Waiting g.row.A.Denot) (B.Observation g.row.A.Denot)). v.live) c.drop_fetch.ensures
    ∙ ap (λ (v : Listed (Waiting g.row.A.Denot) (B.Observation g.row.A.Denot)). v.live) c.drop_cancel.ensures in
    over_is n (own_of c.args.parts.now.held) _ _ _ (seen_cancels n _ _ queue)
    (ap (option_map (shown_operation {A = g.row.A.Denot})) running
    ∙ sym (dropped_shown n c.args.parts.now.held.operations.running))
    (c.remove.ensures.live ∙ ap (λ l. filter (λ (o : Observation). not (o.number == n))
    (map (shown_observation {A = g.row.A.Denot}) l)) live)

pub returns-clause-deed : goal.returns-clause-deed
returns-clause-deed g c =
    subst (λ d. IsDone c.args.parts.now.asker.state d c.let_go.new.asker.state)
    (ap releasing (search rules) ∙ releasing_is
    (observation_of c.args.number (own_of c.args.parts.now.held).observations)) c.let_go.ensures.done
