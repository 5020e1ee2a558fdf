use Rattle.std.proofs.Common.{rules, ap, sym, ◌∙◌, refl, [], arith}
use Rattle.coap_layer.specs.Machine.Parts.{held}
use Rattle.coap_layer.specs.Machine.State.{State, forgotten}
use Rattle.coap_layer.specs.Trace.{Gives, Take}
use Rattle.coap_layer.proofs.Calls.CallsAreSteps.{first_is, moved, step_of, taken_so}
use Rattle.coap_layer.proofs.Calls.TakenIn.{room_kept}
use Rattle.coap_layer.proofs.layer.Layer.next_out.Goals as goal

pub invariant_of-self : goal.invariant_of-self
invariant_of-self g c =
    let i = c.self.invariant in
    let lists = record c.self.inside.lists { waiting = c.pop_front.new.self } in
    (tt, room_kept c.self.inside.room c.self.inside.lists lists i.1 (omega arith) refl (λ x. search rules), i.2)

pub returns-clause-step : goal.returns-clause-step
returns-clause-step g c =
    let h : State = held c.self.inside.most c.self.inside.clock.0 c.self.inside.awaits c.self.inside.ids
    c.self.inside.lists in
    step_of h c.args.self.now.state _ 0 h.clock Take (Gives c.pop_front.result) []
    (ap (λ s. s.state) c.self.view_is) tt refl
    (ap Gives (first_is c.pop_front.result c.self.inside.lists.waiting.items c.pop_front.new.self.items
    c.pop_front.ensures.items (λ more. c.pop_front.ensures.variant.1 (search rules)))) refl
    (ap (λ q. forgotten (moved h h.clock h.awaits h.arrived h.open_cons q)) c.pop_front.ensures.rest
    ∙ ap forgotten (sym (taken_so h c.pop_front.result)))
