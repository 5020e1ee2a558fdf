use Rattle.std.proofs.Common.{ap, refl, subst, ◌∙◌}
use Rattle.std.specs.Option.{option_map}
use Rattle.coap_client.specs.Observing.{is_over}
use Rattle.coap_client.specs.Steps.{reporting}
use Rattle.coap_client.specs.Trace.{Ended}
use Rattle.coap_client.specs.Object.Happens.{IsDone}
use Rattle.coap_client.specs.Object.Held.{own_of}
use Rattle.coap_client.specs.Object.Shown.{shown_observation}
use Rattle.coap_client.proofs.Calls.HeldLemmas.{one_observation}
use Rattle.coap_client.proofs.Calls.NoticingLemmas.{found_by, found_fresh, noticed_none, noticed_over, told_happens}
use Rattle.coap_client.proofs.client.notification.hear_notification.Goals as goal

pub returns-in_default-clause-happens : goal.returns-in_default-clause-happens
returns-in_default-clause-happens g c setup =
    let s = own_of c.args.parts.now.held in
    noticed_none c.args.parts.now.asker.state s c.args.at.0 setup c.args.m.now
    (found_by c.args.m.now.token c.token.result.now s.observations s.observations _ _ c.find_with.ensures
    c.token.ensures.bytes refl
    (ap (λ r. option_map (λ o. shown_observation o.now) r) c.in_default.is))

pub tell-requires-clause-clock : goal.tell-requires-clause-clock
tell-requires-clause-clock g c =
    let s = own_of c.args.parts.now.held in
    found_fresh c.args.at.0 c.args.m.now.token
    (shown_observation c.in-Some.observation.now) s.observations c.requires.watched
    (found_by c.args.m.now.token c.token.result.now s.observations s.observations _ _ c.find_with.ensures
    c.token.ensures.bytes refl
    (ap (λ r. option_map (λ o. shown_observation o.now) r) c.in-Some.is))

pub returns-in-Some-sequence_of-clause-happens : goal.returns-in-Some-sequence_of-clause-happens
returns-in-Some-sequence_of-clause-happens g c setup =
    let s = own_of c.args.parts.now.held in
    told_happens c.args.parts.now.asker.state s c.args.at.0 setup c.args.m.now (shown_observation
    c.in-Some.observation.now)
    (found_by c.args.m.now.token c.token.result.now s.observations s.observations _ _ c.find_with.ensures
    c.token.ensures.bytes refl
    (ap (λ r. option_map (λ o. shown_observation o.now) r) c.in-Some.is)) c.sequence_of.result c.sequence_of.ensures
    c.in-Some-sequence_of.sequence _ c.tell.result c.in-Some-sequence_of.is
    (one_observation s _ c.requires.apart) c.tell.ensures.old c.tell.ensures.new

pub returns-in-None-clause-happens : goal.returns-in-None-clause-happens
returns-in-None-clause-happens g c setup =
    let s = own_of c.args.parts.now.held in
    let o = shown_observation c.in-Some.observation.now in
    noticed_over c.args.parts.now.asker.state s c.args.at.0 setup c.args.m.now o
    (found_by c.args.m.now.token c.token.result.now s.observations s.observations _ _ c.find_with.ensures
    c.token.ensures.bytes refl
    (ap (λ r. option_map (λ o. shown_observation o.now) r) c.in-Some.is)) c.sequence_of.result c.sequence_of.ensures
    c.end_observation.new.parts.asker.state _ c.in-None.is
    (subst (λ k. IsDone c.args.parts.now.asker.state (is_over o.number (Ended k) s).deed
    c.end_observation.new.parts.asker.state)
    c.code.ensures c.end_observation.ensures.deed)
    (c.end_observation.ensures.own ∙ ap (λ k. reporting (is_over o.number (Ended k) s)) c.code.ensures)
