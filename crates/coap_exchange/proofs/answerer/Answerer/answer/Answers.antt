use Rattle.std.proofs.Common.{ap}
use Rattle.coap_exchange.specs.Machine.AnswererShown.{sending_as}
use Rattle.coap_exchange.specs.Machine.Listed.{listed}
use Rattle.coap_exchange.proofs.Calls.ServerCalls.{answered}
use Rattle.coap_exchange.proofs.answerer.Answerer.answer.Goals as goal

pub returns-clause-step : goal.returns-clause-step
returns-clause-step g c =
    let inside = c.self.inside in
    let sent = c.send.ensures.sent in (
      sent.0,
      answered inside.layer.state c.send.new.layer.state inside.findings.pending inside.deferred
          (listed inside.separate.items) inside.findings.ended (sending_as inside.findings.unmatched)
          c.args.self.now.state c.args.asked.now c.args.response.now sent.0
          (ap (λ s. s.state) c.self.view_is) c.requires.may.pending c.requires.response sent.1 sent.2,
    )
