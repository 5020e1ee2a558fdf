use Rattle.std.proofs.Common.{rules, ◌≡◌, ap, sym, ◌∙◌, refl, [], is_some, ◌&&◌, ◌==◌}
use Rattle.std.specs.List.{list_any}
use Rattle.coap_types.specs.SameEndpoint.{same_endpoint}
use Rattle.coap_layer.specs.Machine.Parts.{held, open_before}
use Rattle.coap_layer.specs.Machine.Sendings.{open_now}
use Rattle.coap_layer.specs.Machine.State.{State, forgotten, is_outstanding}
use Rattle.coap_layer.specs.Trace.{Is, Settle}
use Rattle.coap_layer.proofs.Calls.CallsAreSteps.{moved, step_of, settled_so}
use Rattle.coap_layer.proofs.Calls.Outstanding.{ended_before, ended_open}
use Rattle.coap_layer.proofs.Calls.Places.{before_ended}
use Rattle.coap_layer.proofs.Calls.Sendings.{outstanding_is}
use Rattle.coap_layer.proofs.Calls.TakenIn.{room_kept}
use Rattle.coap_layer.proofs.layer.Layer.settle.Goals as goal

pub invariant_of-self : goal.invariant_of-self
invariant_of-self g c =
    let i = c.self.invariant in
    let lists = record c.self.inside.lists { sendings = c.end_all.new.sendings } in (
      i.0,
      room_kept c.self.inside.room c.self.inside.lists lists i.1 (search rules) c.end_all.ensures.capacity (λ x. x),
      i.2,
    )

pub returns-clause-step : goal.returns-clause-step
returns-clause-step g c =
    let h : State = held c.self.inside.most c.self.inside.clock.0 c.self.inside.awaits c.self.inside.ids
    c.self.inside.lists in
    let there : c.is_outstanding-open.result ≡ is_outstanding c.args.to c.args.id.0
    (open_now c.self.inside.lists.sendings.items)
    = c.is_outstanding-open.ensures ∙ (ap (λ cs. list_any
    (λ x. is_some x.last && (same_endpoint x.to c.args.to && (x.id.0 == c.args.id.0))) cs) c.deref.ensures.value
    ∙ outstanding_is c.args.to c.args.id.0 c.self.inside.lists.sendings.items) in
    step_of h c.args.self.now.state _ 0 h.clock (Settle c.args.to c.args.id.0) (Is c.is_outstanding-open.result) []
    (ap (λ s. s.state) c.self.view_is) tt refl (ap Is there) refl
    (ap (λ cs. forgotten (moved h h.clock h.awaits h.arrived cs h.queue))
    (ap open_now c.end_all.ensures.items ∙ ended_open c.args.to c.args.id.0 c.self.inside.lists.sendings.items)
    ∙ ap forgotten (sym (settled_so h c.args.to c.args.id.0 c.is_outstanding-open.result)))

pub returns-clause-before : goal.returns-clause-before
returns-clause-before g c =
    before_ended c.self.inside.most c.self.inside.mark _ c.self.inside.lists.entries.settled
    c.self.inside.lists.sendings.items
    c.end_all.new.sendings.items c.self.inside.lists.waiting.items
    (ap open_before c.end_all.ensures.items ∙ ended_before c.args.to c.args.id.0 c.self.inside.lists.sendings.items)
    ∙ ap (λ s. s.before) c.self.view_is
