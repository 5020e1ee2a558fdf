use Rattle.coap_handlers.proofs.StillHeld.{ticked}
use Rattle.coap_handlers.proofs.responder.Responder.tick.Goals as goal

pub invariant_of-self-2 : goal.invariant_of-self-2
invariant_of-self-2 g c =
    ticked c.self.inside.answerer c.tick.new.self c.self.inside.asked c.self.inside.ready c.self.inside.deferred
    c.self.inside.most_remembered c.args.now c.in_ok-due.due c.in_ok-due.ensures.step.0
    c.in_ok-due.ensures.step.1 c.called_ready-self-inside.result c.self.invariant c.in_ok-due.ensures.step.2
    c.in_ok-due.ensures.ready c.called_ready-self-inside.ensures
