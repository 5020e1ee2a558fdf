use Rattle.coap_client.specs.Object.Held.{own_of}
use Rattle.coap_client.proofs.Calls.TickSteps.{ok_both, ticked_by}
use Rattle.coap_client.proofs.client.scheduler.tick.Goals as goal

pub returns-else-is_err-clause-step : goal.returns-else-is_err-clause-step
returns-else-is_err-clause-step g c =
    let step = c.in_ok-turn.ensures.step in
    ok_both c.pass_time-done.result
    (λ did comes does.
    let s = ticked_by (own_of c.args.parts.now.held) c.args.parts.now.asker.state c.tick.new.self.state _ c.args.now.0
    c.later-at.result.0 c.args.word step.0 c.in_ok-turn.turn did c.later-at.ensures step.1 comes does in
    (step.0, c.in_ok-turn.turn, s.0, s.1, s.2, s.3))
    c.pass_time-done.ensures.happens c.pass_time-done.ensures.did
