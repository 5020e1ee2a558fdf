use Rattle.std.proofs.Common.{map, ap, sym, ◌∙◌}
use Rattle.coap_client.specs.Object.Shown.{shown_observation}
use Rattle.coap_client.proofs.Calls.LiveLemmas.{behind, place_behind, place_here}
use Rattle.coap_client.proofs.client.observations.+place_from.Goals as goal

pub returns-then-first-number : goal.returns-then-first-number
returns-then-first-number g t c =
    let live = c.args.operations.now.live in
    let first = c.in_ok-first.first.now in
    let split = ap (λ l. map (shown_observation {A = g.row.A.Denot}) l)
    (behind live c.args.from first (sym c.in_ok-first.ensures)) in
    place_here c.args.from c.args.number _ _ (shown_observation first) split c.if-first-number.true

pub returns-else-first-number : goal.returns-else-first-number
returns-else-first-number g t c =
    let live = c.args.operations.now.live in
    let first = c.in_ok-first.first.now in
    let split = ap (λ l. map (shown_observation {A = g.row.A.Denot}) l)
    (behind live c.args.from first (sym c.in_ok-first.ensures)) in
    c.place_from.ensures ∙ place_behind c.args.from c.args.number _ _
    (shown_observation first) split c.if-first-number.false
