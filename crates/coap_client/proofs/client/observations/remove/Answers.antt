use Rattle.std.proofs.Common.{◌<◌, map, ap, sym, subst, ◌∙◌}
use Rattle.std.proofs.lemmas.List.{length-map}
use Rattle.coap_client.specs.Object.Shown.{shown_observation}
use Rattle.coap_client.proofs.Calls.LiveLemmas.{map_remove, none_removed, one_removed, place_within}
use Rattle.coap_client.proofs.client.observations.remove.Goals as goal

pub remove_live-requires : goal.remove_live-requires
remove_live-requires g c =
    let live = c.args.operations.now.live in
    let os = map (shown_observation {A = g.row.A.Denot}) live in
    subst (λ k. c.in-Some.place < k) (length-map live (shown_observation {A = g.row.A.Denot}))
    (place_within c.args.number os c.in-Some.place (sym c.in-Some.ensures))

pub returns-in-Some-clause-live : goal.returns-in-Some-clause-live
returns-in-Some-clause-live g c =
    let live = c.args.operations.now.live in
    let os = map (shown_observation {A = g.row.A.Denot}) live in
    let p = c.in-Some.place in
    ap (λ v. map (shown_observation {A = g.row.A.Denot}) v.live) c.remove_live.ensures
    ∙ (map_remove (shown_observation {A = g.row.A.Denot}) live p
    ∙ one_removed c.args.number os p (sym c.in-Some.ensures) c.requires)

pub returns-in_default-clause-live : goal.returns-in_default-clause-live
returns-in_default-clause-live g c =
    let live = c.args.operations.now.live in
    let os = map (shown_observation {A = g.row.A.Denot}) live in
    none_removed c.args.number os (sym c.place_of.ensures ∙ c.in_default.is)
