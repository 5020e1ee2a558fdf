use Rattle.coap_handlers.proofs.StillHeld.{fresh}
use Rattle.coap_handlers.proofs.responder.Responder.with_setup.Goals as goal

pub invariant_of-result : goal.invariant_of-result
invariant_of-result g c =
    fresh c.with_setup.result c.args.setup c.get-most_remembered.result
    c.with_setup.ensures.start c.get-most_remembered.ensures.number
