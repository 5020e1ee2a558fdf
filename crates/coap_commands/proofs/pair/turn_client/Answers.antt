use Rattle.coap_waits.specs.Asks.{AsksNothing, TurnsAt}
use Rattle.coap_waits.proofs.Facts.{client_sent, client_turned, client_turned_at, on_ok, turned_on, was_borne}
use Rattle.coap_commands.proofs.pair.turn_client.Goals as goal

pub returns-clause-told : goal.returns-clause-told
returns-clause-told g c =
    let like = TurnsAt c.in_ok-now.now.0 in
    on_ok c.bear_in_all.result (
      _,
      c.in_ok-now.ensures,
      turned_on like _ _ _ (client_turned_at _ _ _ _ _ _ _ _ _ _ _ _ _ c.turn.ensures.turns)
          (client_sent like (λ p. tt) _ _ _ _ _ _ c.send_all.ensures.chain),
    )

pub returns-clause-turned : goal.returns-clause-turned
returns-clause-turned g c =
    on_ok c.bear_in_all.result
    (turned_on AsksNothing _ _ _
    (client_turned AsksNothing (λ call is. is) _ _ _ _ _ _ _ _ _ _ _ _ _ c.turn.ensures.turns)
    (client_sent AsksNothing (λ p. tt) _ _ _ _ _ _ c.send_all.ensures.chain))

pub returns-clause-borne : goal.returns-clause-borne
returns-clause-borne g c = was_borne c.bear_in_all.result _ c.bear_in_all.ensures

pub returns-clause-over : goal.returns-clause-over
returns-clause-over g c =
    on_ok c.bear_in_all.result (_, c.in_ok-now.ensures, _, _, c.turn.ensures.turns, c.send_all.ensures.chain)
