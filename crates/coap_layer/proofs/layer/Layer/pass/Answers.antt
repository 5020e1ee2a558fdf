use Rattle.std.proofs.Common.{rules, ap, sym, refl, []}
use Rattle.coap_layer.specs.Machine.Parts.{held}
use Rattle.coap_layer.specs.Machine.State.{State, forgotten}
use Rattle.coap_layer.specs.Trace.{Nothing, Pass}
use Rattle.coap_layer.proofs.Calls.CallsAreSteps.{step_of, still}
use Rattle.coap_layer.proofs.Calls.Places.{kept_later}
use Rattle.coap_layer.proofs.layer.Layer.pass.Goals as goal

pub invariant_of-self : goal.invariant_of-self
invariant_of-self g c =
    let i = c.self.invariant in
    (i.0, i.1, kept_later _ _ _ _ c.self.inside.lists.entries (search rules) i.2)

pub returns-clause-step : goal.returns-clause-step
returns-clause-step g c =
    let h : State = held c.self.inside.most c.self.inside.clock.0 c.self.inside.awaits c.self.inside.ids
    c.self.inside.lists in
    let at = c.later-self-inside.result.0 in
    step_of h c.args.self.now.state _ c.args.now.0 at Pass Nothing [] (ap (λ s. s.state) c.self.view_is) tt
    (search rules) refl refl
    (ap forgotten (sym (still h at Pass Nothing h.awaits (λ a. refl) (λ x. refl) refl refl refl refl refl)))
