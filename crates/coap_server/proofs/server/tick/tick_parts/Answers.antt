use Rattle.std.proofs.Common.{refl, ap}
use Rattle.coap_observe.specs.Observers.{Roll}
use Rattle.coap_server.proofs.Calls.TurnSteps.{if_ok, ticked_by}
use Rattle.coap_server.proofs.server.tick.tick_parts.Goals as goal

pub returns-else-is_err-clause-step : goal.returns-else-is_err-clause-step
returns-else-is_err-clause-step g c =
    let s = c.in_ok-due.ensures.step in
    if_ok c.turn-done.result
    (λ did h.
    let t = ticked_by _ _ _ c.args.now.0 c.later-at.result.0 c.args.word s.0 s.1 _ did c.forget.new.observers.list
    c.ended.result c.later-at.ensures s.2 (ap (λ (r : Roll). r.list) c.forget.ensures) c.ended.ensures.same refl h in
    (s.0, s.1, _, t.0, t.1, t.2, t.3))
    c.turn-done.ensures.turned
