use Rattle.std.proofs.Common.{ap, ◌∙◌}
use Rattle.coap_handlers.specs.Shown.{Shown}
use Rattle.coap_handlers.proofs.WhyRefused.{no_deferral, not_pending}
use Rattle.coap_handlers.proofs.responder.Responder.defer.Goals as goal

pub returns-then-not-is_that-clause-why : goal.returns-then-not-is_that-clause-why
returns-then-not-is_that-clause-why g c =
    no_deferral c.args.self.now c.args.asked.now c.self.inside.given c.why_not.result
    (ap (λ (x : Shown). x.given) c.self.view_is)
    (not_pending c.args.self.now c.args.asked.now c.self.inside.asked c.is_that.result
    (c.self.invariant.pending ∙ ap (λ (x : Shown). x.state.own.pending) c.self.view_is) c.is_that.ensures
    c.if-not-is_that.true) c.why_not.ensures
