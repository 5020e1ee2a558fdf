use Rattle.std.proofs.Common.{◌≡◌, ◌≤◌, ◌∙◌, ap, arith, max, refl, subst, sym}
use Rattle.coap_layer.specs.Arrivals.{arrival_at}
use Rattle.coap_layer.specs.Machine.Parts.{held}
use Rattle.coap_layer.specs.Machine.State.{State}
use Rattle.coap_layer.specs.Machine.Would.{would_at, would_of}
use Rattle.coap_layer.proofs.Calls.Foretold.{same_would}
use Rattle.coap_layer.proofs.layer.Layer.would.Goals as goal

pub returns : goal.returns
returns g c =
    let h : State = held c.self.inside.most c.self.inside.clock.0 c.self.inside.awaits c.self.inside.ids
    c.self.inside.lists in
    let now = c.args.now.0 in
    let from = c.args.from in
    let bytes = c.args.bytes.now in
    let at : c.later-at.result.0 ≡ max h.clock now = c.later-at.ensures in
    let le : h.clock ≤ max h.clock now = omega arith in
    let told = c.would.ensures h refl refl refl (sym c.would_give-free.ensures) in
    let here : c.would.result ≡ would_at h (max h.clock now) from (arrival_at bytes) =
    told ∙ (ap (would_at h c.later-at.result.0 from) c.read.ensures
    ∙ ap (λ t. would_at h t from (arrival_at bytes)) at) in
    subst (λ (s : State). c.would.result ≡ would_of s now from bytes) (ap (λ s. s.state) c.self.view_is)
    (here ∙ sym (same_would h (max h.clock now) le from bytes))
