use Rattle.std.proofs.Common.{map, ap, sym, ◌∙◌}
use Rattle.std.proofs.lemmas.Option.{slice_get-map}
use Rattle.std.specs.Option.{option_map}
use Rattle.coap_client.specs.Object.Shown.{shown_observation}
use Rattle.coap_client.proofs.Calls.LiveLemmas.{found_at, found_none, shown_copied}
use Rattle.coap_client.proofs.client.observations.find.Goals as goal

pub returns-in_err-place_of : goal.returns-in_err-place_of
returns-in_err-place_of g c =
    let live = c.args.operations.now.live in
    let os = map (shown_observation {A = g.row.A.Denot}) live in
    ap (option_map (λ o. shown_observation o.now)) c.from_residual.ensures
    ∙ sym (found_none c.args.number os (sym c.in_err-place_of.ensures))

pub returns : goal.returns
returns g c =
    let live = c.args.operations.now.live in
    let os = map (shown_observation {A = g.row.A.Denot}) live in
    let p = c.in_ok-place_of.field-0 in
    shown_copied (shown_observation {A = g.row.A.Denot}) c.live.result
    ∙ (ap (option_map (shown_observation {A = g.row.A.Denot})) c.live.ensures
    ∙ (sym (slice_get-map (shown_observation {A = g.row.A.Denot}) live p)
    ∙ found_at c.args.number os p (sym c.in_ok-place_of.ensures)))
