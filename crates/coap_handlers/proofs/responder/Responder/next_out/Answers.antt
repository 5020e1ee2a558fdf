use Rattle.coap_handlers.proofs.StillHeld.{taken}
use Rattle.coap_handlers.proofs.responder.Responder.next_out.Goals as goal

pub invariant_of-self : goal.invariant_of-self
invariant_of-self g c =
    taken c.self.inside.answerer c.next_out.new.self c.self.inside.asked c.self.inside.ready
    c.self.inside.deferred c.self.inside.most_remembered _ c.self.invariant
    c.next_out.ensures.step c.next_out.ensures.answerable c.next_out.ensures.kept
