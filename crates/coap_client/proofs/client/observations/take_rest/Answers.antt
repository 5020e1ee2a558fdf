use Rattle.std.proofs.Common.{◌<◌, None, map, set, ap, sym, subst, ◌∙◌}
use Rattle.std.proofs.lemmas.List.{length-map}
use Rattle.std.proofs.lemmas.Option.{slice_get-map}
use Rattle.std.specs.Option.{option_map}
use Rattle.coap_client.specs.Own.{Observation}
use Rattle.coap_client.specs.Object.Shown.{shown_observation, shown_rest}
use Rattle.coap_client.proofs.Calls.LiveLemmas.{found_at, found_none, map_set, none_changed, one_changed, place_within}
use Rattle.coap_client.proofs.Calls.HeldLemmas.{rest_in}
use Rattle.coap_client.proofs.client.observations.take_rest.Goals as goal

pub returns-in_err-place-clause-rest : goal.returns-in_err-place-clause-rest
returns-in_err-place-clause-rest g c =
    let live = c.args.operations.now.live in
    let os = map (shown_observation {A = g.row.A.Denot}) live in
    ap (option_map shown_rest) c.from_residual.ensures
    ∙ sym (ap rest_in (found_none c.args.number os (sym c.in_err-place.ensures)))

pub returns-in_err-place-clause-left : goal.returns-in_err-place-clause-left
returns-in_err-place-clause-left g c =
    let live = c.args.operations.now.live in
    let os = map (shown_observation {A = g.row.A.Denot}) live in
    sym (none_changed c.args.number (λ (o : Observation). record o { rest = None }) os (sym c.in_err-place.ensures))

pub live_mut-requires : goal.live_mut-requires
live_mut-requires g c =
    let live = c.args.operations.now.live in
    let os = map (shown_observation {A = g.row.A.Denot}) live in
    subst (λ k. c.in_ok-place.place < k) (length-map live (shown_observation {A = g.row.A.Denot}))
    (place_within c.args.number os c.in_ok-place.place (sym c.in_ok-place.ensures))

pub returns-clause-rest : goal.returns-clause-rest
returns-clause-rest g c =
    let live = c.args.operations.now.live in
    let os = map (shown_observation {A = g.row.A.Denot}) live in
    let p = c.in_ok-place.place in
    let found = slice_get-map (shown_observation {A = g.row.A.Denot}) live p
    ∙ ap (option_map (shown_observation {A = g.row.A.Denot})) c.live_mut.ensures.value in
    ap (option_map shown_rest) c.take.ensures.value
    ∙ ap rest_in (sym found ∙ found_at c.args.number os p (sym c.in_ok-place.ensures))

pub returns-clause-left : goal.returns-clause-left
returns-clause-left g c =
    let live = c.args.operations.now.live in
    let os = map (shown_observation {A = g.row.A.Denot}) live in
    let p = c.in_ok-place.place in
    let o = c.live_mut.result.now in
    let found = slice_get-map (shown_observation {A = g.row.A.Denot}) live p
    ∙ ap (option_map (shown_observation {A = g.row.A.Denot})) c.live_mut.ensures.value in
    ap (λ r. map (shown_observation {A = g.row.A.Denot}) (set live p (record o { rest = r }))) c.take.ensures.after
    ∙ (map_set (shown_observation {A = g.row.A.Denot}) live p (record o { rest = None })
    ∙ one_changed c.args.number (λ (o : Observation). record o { rest = None }) os p (shown_observation o)
    (sym c.in_ok-place.ensures) c.requires found)
