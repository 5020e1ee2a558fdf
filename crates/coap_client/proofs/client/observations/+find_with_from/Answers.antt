use Rattle.std.proofs.Common.{◌≡◌, true, false, map, ap, sym, ◌∙◌, rules}
use Rattle.coap_client.specs.Object.Shown.{shown_observation}
use Rattle.coap_client.proofs.Calls.LiveLemmas.{behind, with_behind, with_here}
use Rattle.coap_exchange.specs.Tokens.{same_token}
use Rattle.coap_client.proofs.client.observations.+find_with_from.Goals as goal

pub returns-then-eq : goal.returns-then-eq
returns-then-eq g t c =
    let live = c.args.operations.now.live in
    let first = c.in_ok-first.first.now in
    let split = ap (λ l. map (shown_observation {A = g.row.A.Denot}) l)
    (behind live c.args.from first (sym c.in_ok-first.ensures)) in
    let here : same_token c.args.token.now (shown_observation first).token ≡ true = search rules in
    with_here c.args.token.now _ _ (shown_observation first) split here

pub returns-else-eq : goal.returns-else-eq
returns-else-eq g t c =
    let live = c.args.operations.now.live in
    let first = c.in_ok-first.first.now in
    let split = ap (λ l. map (shown_observation {A = g.row.A.Denot}) l)
    (behind live c.args.from first (sym c.in_ok-first.ensures)) in
    let other : same_token c.args.token.now (shown_observation first).token ≡ false = search rules in
    c.find_with_from.ensures ∙ with_behind c.args.token.now _ _ (shown_observation first) split other
