use Rattle.std.proofs.Common.{map, ap, sym, ◌∙◌}
use Rattle.std.specs.Prelude.{is_some}
use Rattle.coap_client.specs.Object.Shown.{shown_observation, shown_rest}
use Rattle.coap_client.proofs.Calls.LiveLemmas.{behind, fetch_behind, fetch_here}
use Rattle.coap_client.proofs.Facts.Calls.PassingLemmas.{shown_none, shown_some}
use Rattle.coap_client.proofs.client.scheduler.+to_fetch_from.Goals as goal

pub returns-then-is_some : goal.returns-then-is_some
returns-then-is_some g t c =
    let first = c.in_ok-first.first.now in
    let split = ap (λ l. map (shown_observation {A = g.row.A.Denot}) l)
    (behind c.args.operations.now.live c.args.from first (sym c.in_ok-first.ensures)) in
    fetch_here _ _ (shown_observation first) split
    (shown_some (shown_rest {A = g.row.A.Denot}) first.rest (sym c.is_some.ensures ∙ c.if-is_some.true))

pub returns-else-is_some : goal.returns-else-is_some
returns-else-is_some g t c =
    let first = c.in_ok-first.first.now in
    let split = ap (λ l. map (shown_observation {A = g.row.A.Denot}) l)
    (behind c.args.operations.now.live c.args.from first (sym c.in_ok-first.ensures)) in
    c.to_fetch_from.ensures ∙ fetch_behind _ _ (shown_observation first) split
    (ap is_some (shown_none (shown_rest {A = g.row.A.Denot}) first.rest
    (sym c.is_some.ensures ∙ c.if-is_some.false)))
