use Rattle.std.proofs.Common.{◌<◌, map, ap, sym, subst, ◌∙◌}
use Rattle.std.proofs.lemmas.List.{length-map}
use Rattle.std.proofs.lemmas.Option.{slice_get-map}
use Rattle.std.specs.Option.{option_map}
use Rattle.coap_client.specs.Own.{Observation}
use Rattle.coap_client.specs.Object.Shown.{shown_observation, shown_rest}
use Rattle.coap_client.proofs.Calls.LiveLemmas.{map_set, none_changed, one_changed, place_within}
use Rattle.coap_client.proofs.client.observations.set_rest.Goals as goal

pub live_mut-requires : goal.live_mut-requires
live_mut-requires g c =
    let live = c.args.operations.now.live in
    let os = map (shown_observation {A = g.row.A.Denot}) live in
    subst (λ k. c.in-Some.place < k) (length-map live (shown_observation {A = g.row.A.Denot}))
    (place_within c.args.number os c.in-Some.place (sym c.in-Some.ensures))

pub returns-in-Some-clause-live : goal.returns-in-Some-clause-live
returns-in-Some-clause-live g c =
    let live = c.args.operations.now.live in
    let os = map (shown_observation {A = g.row.A.Denot}) live in
    let p = c.in-Some.place in
    let o = c.live_mut.result.now in
    let found = slice_get-map (shown_observation {A = g.row.A.Denot}) live p
    ∙ ap (option_map (shown_observation {A = g.row.A.Denot})) c.live_mut.ensures.value in
    map_set (shown_observation {A = g.row.A.Denot}) live p (record o { rest = c.args.rest })
    ∙ one_changed c.args.number (λ (o : Observation). record o { rest = option_map shown_rest c.args.rest }) os p
    (shown_observation o) (sym c.in-Some.ensures) c.requires found

pub returns-in_default-clause-live : goal.returns-in_default-clause-live
returns-in_default-clause-live g c =
    let live = c.args.operations.now.live in
    let os = map (shown_observation {A = g.row.A.Denot}) live in
    sym (none_changed c.args.number (λ (o : Observation). record o { rest = option_map shown_rest c.args.rest }) os
    (sym c.place_of.ensures ∙ c.in_default.is))
