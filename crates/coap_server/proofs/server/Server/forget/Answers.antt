use Rattle.std.proofs.Common.{◌≡◌, false, subst, sym}
use Rattle.coap_layer.specs.Machine.Peers.{goes_to}
use Rattle.coap_server.proofs.Calls.PeerIsForgotten.{seen_forgets, unknown}
use Rattle.coap_server.proofs.Calls.WorkFalls.{led_on}
use Rattle.coap_server.proofs.server.Server.forget.Goals as goal

pub invariant_of-self : goal.invariant_of-self
invariant_of-self g c =
    let s = c.forget_parts.ensures.step in
    (led_on _ _ _ (led_on _ _ _ c.self.invariant.0 s.1.4) s.2, c.forget_parts.ensures.timed)

pub returns-clause-step : goal.returns-clause-step
returns-clause-step g c = seen_forgets g.S.Store.content _ _ _ _ c.self.view_is c.forget_parts.ensures.step

pub returns-clause-unknown : goal.returns-clause-unknown
returns-clause-unknown g c = λ quiet now.
    unknown c.args.peer _ _ c.self.invariant.0 c.forget_parts.ensures.small c.forget_parts.ensures.step
    (subst (λ k. goes_to c.args.peer k.exchanges.layer.queue ≡ false) (sym c.self.view_is) quiet) now
