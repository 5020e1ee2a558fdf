use Rattle.coap_server.proofs.Calls.WorkFalls.{led_on}
use Rattle.coap_server.proofs.server.Server.remove.Goals as goal

pub invariant_of-self : goal.invariant_of-self
invariant_of-self g c = (led_on _ _ _ c.self.invariant.0 c.remove_parts.ensures.step, c.remove_parts.ensures.timed)
