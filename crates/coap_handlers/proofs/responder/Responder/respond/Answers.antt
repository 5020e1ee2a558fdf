use Rattle.std.proofs.Common.{ap}
use Rattle.coap_handlers.specs.Shown.{Shown}
use Rattle.coap_handlers.proofs.StillHeld.{responded}
use Rattle.coap_handlers.proofs.WhyRefused.{no_response}
use Rattle.coap_handlers.proofs.responder.Responder.respond.Goals as goal

pub returns-in-None-clause-why : goal.returns-in-None-clause-why
returns-in-None-clause-why g c =
    no_response c.args.self.now c.args.asked.now c.args.response.now c.self.inside.given c.self.inside.ready
    c.why_not.result
    (ap (λ (x : Shown). x.given) c.self.view_is) (ap (λ (x : Shown). x.ready) c.self.view_is)
    (c.is_response.ensures.0 c.if-not-is_response.false) c.in-None.ensures.none c.why_not.ensures

pub respond-id-requires-clause-may : goal.respond-id-requires-clause-may
respond-id-requires-clause-may g c = c.self.invariant.ready _ c.in-Some.ensures.some

pub invariant_of-self : goal.invariant_of-self
invariant_of-self g c =
    responded c.self.inside.answerer c.respond-id.new.self c.self.inside.asked c.self.inside.ready
    c.self.inside.deferred c.self.inside.most_remembered c.in-Some.at.0 c.args.asked.now c.args.response.now c.args.word
    c.respond-id.result.0 c.self.invariant (c.self.invariant.ready _ c.in-Some.ensures.some) c.respond-id.ensures.step
