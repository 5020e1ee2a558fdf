use Rattle.coap_server.proofs.Calls.FeedIsACall.{seen_step}
use Rattle.coap_server.proofs.Calls.WorkFalls.{led_on}
use Rattle.coap_server.proofs.server.Server.let_go.Goals as goal

pub invariant_of-self : goal.invariant_of-self
invariant_of-self g c = (led_on _ _ _ c.self.invariant.0 c.let_go.ensures.step, c.let_go.ensures.timed)

pub returns : goal.returns
returns g c = seen_step g.S.Store.content _ _ _ _ c.self.view_is c.let_go.ensures.step
