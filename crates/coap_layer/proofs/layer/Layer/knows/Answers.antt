use Rattle.std.proofs.Common.{◌≡◌, ◌∙◌, ◌||◌, ◌&&◌, ap, is_some, subst}
use Rattle.std.specs.List.{list_any}
use Rattle.coap_types.specs.SameEndpoint.{same_endpoint}
use Rattle.coap_layer.specs.Machine.Parts.{held}
use Rattle.coap_layer.specs.Machine.Peers.{knows}
use Rattle.coap_layer.specs.Machine.State.{State, is_busy}
use Rattle.coap_layer.proofs.Calls.Outstanding.{busy_is}
use Rattle.coap_layer.proofs.layer.Layer.knows.Goals as goal

pub returns : goal.returns
returns g c =
    let h : State = held c.self.inside.most c.self.inside.clock.0 c.self.inside.awaits c.self.inside.ids
    c.self.inside.lists in
    let peer = c.args.peer in
    let busy : c.is_busy-busy.result ≡ is_busy peer h.open_cons
    = c.is_busy-busy.ensures ∙ (ap (λ cs. list_any (λ x. is_some x.last && same_endpoint x.to peer) cs)
    c.deref.ensures.value ∙ busy_is peer c.self.inside.lists.sendings.items) in
    let queued = c.goes_to-queued.ensures in
    let awaited = c.is_awaited.ensures in
    let here : c.one_of.result ≡ knows peer h = c.one_of.ensures ∙ cc (busy, queued, awaited) in
    subst (λ (s : State). c.one_of.result ≡ knows peer s) (ap (λ s. s.state) c.self.view_is) here
