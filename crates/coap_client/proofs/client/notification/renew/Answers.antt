use Rattle.std.proofs.Common.{◌≤◌, map, ap, subst, sym, ◌∙◌}
use Rattle.std.specs.Option.{option_map}
use Rattle.coap_operations.specs.Listed.{Listed}
use Rattle.coap_client.specs.declared.client.operation.Observation as B
use Rattle.coap_client.specs.declared.client.operation.Waiting.{Waiting}
use Rattle.coap_client.specs.Own.{Own}
use Rattle.coap_client.specs.Places.{in_observations}
use Rattle.coap_client.specs.Object.Held.{own_of}
use Rattle.coap_client.specs.Object.Shown.{shown_observation, shown_operation, shown_queued}
use Rattle.coap_client.proofs.Calls.HeldLemmas.{dropped_shown}
use Rattle.coap_client.proofs.Calls.NoticingLemmas.{as_queued, renewed_own, watched_is, watched_one}
use Rattle.coap_client.proofs.client.notification.renew.Goals as goal

pub set_rest-requires : goal.set_rest-requires
set_rest-requires g c =
    let live = ap (λ (v : Listed (Waiting g.row.A.Denot) (B.Observation g.row.A.Denot)). v.live) c.drop_fetch.ensures in
    subst (λ os. in_observations c.args.number os ≤ 1)
    (sym (watched_is (shown_observation {A = g.row.A.Denot}) c.args.number c.args.watch _ _ _ live
    c.set_watch.ensures.live))
    (watched_one c.args.number c.args.number c.args.watch _
    (subst (λ (o : Own). in_observations c.args.number o.observations ≤ 1)
    (sym c.begin.ensures.same) c.requires.one))

pub returns-clause-new : goal.returns-clause-new
returns-clause-new g c =
    let n = c.args.number in
    let first = own_of c.begin.new.held in
    let queue = ap (λ (v : Listed (Waiting g.row.A.Denot) (B.Observation g.row.A.Denot)). v.queue)
    c.set_rest.ensures.same ∙ (ap (λ (v : Listed (Waiting g.row.A.Denot) (B.Observation g.row.A.Denot)). v.queue)
    c.set_watch.ensures.same ∙ ap (λ (v : Listed (Waiting g.row.A.Denot) (B.Observation g.row.A.Denot)). v.queue)
    c.drop_fetch.ensures) in
    let running = ap (λ (v : Listed (Waiting g.row.A.Denot) (B.Observation g.row.A.Denot)). v.running)
    c.set_rest.ensures.same ∙ (ap (λ (v : Listed (Waiting g.row.A.Denot) (B.Observation g.row.A.Denot)). v.running)
    c.set_watch.ensures.same ∙ ap (λ (v : Listed (Waiting g.row.A.Denot) (B.Observation g.row.A.Denot)). v.running)
    c.drop_fetch.ensures) in
    let live = ap (λ (v : Listed (Waiting g.row.A.Denot) (B.Observation g.row.A.Denot)). v.live) c.drop_fetch.ensures in
    renewed_own n c.args.watch c.args.m.now (own_of c.args.held.now) first _ _ _ _ _ _ c.begin.ensures.same
    (ap (option_map (shown_operation {A = g.row.A.Denot})) running
    ∙ sym (dropped_shown n c.begin.new.held.operations.running))
    (watched_is (shown_observation {A = g.row.A.Denot}) n c.args.watch _ _ _ live c.set_watch.ensures.live)
    c.set_rest.ensures.live
    (c.in_ok-rest.ensures.rest c.requires.sequence) (c.in_ok-rest.ensures.value n c.requires.sequence)
    (as_queued first _ _ _ _ _ (ap (map (shown_queued {A = g.row.A.Denot})) queue) c.give_some.ensures)
