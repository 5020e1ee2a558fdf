use Rattle.std.proofs.Common.{rules, ◌≡◌, ap, ◌∙◌, is_some, ◌&&◌, not}
use Rattle.std.specs.List.{list_any}
use Rattle.coap_types.specs.SameEndpoint.{same_endpoint}
use Rattle.coap_layer.specs.Machine.Parts.{held}
use Rattle.coap_layer.specs.Machine.State.{State, is_busy, is_free}
use Rattle.coap_layer.proofs.Calls.Outstanding.{busy_is}
use Rattle.coap_layer.proofs.Calls.Sent.{may_be, told_so}
use Rattle.coap_layer.proofs.layer.Layer.would_confirm.Goals as goal

pub returns : goal.returns
returns g c =
    let h : State = held c.self.inside.most c.self.inside.clock.0 c.self.inside.awaits c.self.inside.ids
    c.self.inside.lists in
    let at = c.later-at.result.0 in
    let busy : c.is_busy-busy.result ≡ is_busy c.args.to h.open_cons
    = c.is_busy-busy.ensures ∙ (ap (λ cs. list_any (λ x. is_some x.last && same_endpoint x.to c.args.to) cs)
    c.deref.ensures.value ∙ busy_is c.args.to c.self.inside.lists.sendings.items) in
    let may : c.is_none.result ≡ (not (is_busy c.args.to h.open_cons) && is_free at h.upcoming h.last_used)
    = may_be c.is_busy-busy.result c.would_give.result (is_busy c.args.to h.open_cons)
    (is_free at h.upcoming h.last_used) c.is_none.result c.refusal.result c.refusal.ensures c.is_none.ensures busy
    c.would_give.ensures in
    told_so h c.args.self.now.state c.args.to c.args.now.0 at c.is_none.result (ap (λ s. s.state) c.self.view_is)
    (search rules) may
