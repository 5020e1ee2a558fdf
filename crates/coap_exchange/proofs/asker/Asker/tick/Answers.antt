use Rattle.std.proofs.Common.{rules, ap}
use Rattle.coap_exchange.proofs.Calls.ClientCalls.{ticked_old}
use Rattle.coap_exchange.proofs.asker.Asker.tick.Goals as goal

pub returns-clause-step : goal.returns-clause-step
returns-clause-step g c =
    let l = c.self.inside.layer.state in
    let step = c.in_ok-tick.ensures.step in (
      step.0,
      ticked_old l c.self.inside.server c.self.inside.word c.self.inside.held c.args.self.now.state
          (ap (λ s. s.state) c.self.view_is) c.tick.new.self.state c.args.now.0 step.0 c.clock.result.0
          c.unless_ended-self-inside.result
          c.turn_of-turn.result step.2 c.clock.ensures (c.turn_of-turn.ensures l.clock c.self.inside.word step.0 step.1)
          (search rules),
    )
