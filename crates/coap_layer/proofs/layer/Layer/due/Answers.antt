use Rattle.std.proofs.Common.{◌<◌, ◌^◌, ◌≡◌, ◌∙◌, max, ap, subst}
use Rattle.coap_types.specs.FirstMoment.{IsFirstMoment}
use Rattle.coap_layer.specs.Machine.State.{State}
use Rattle.coap_layer.specs.Machine.Waits.{any_has_step}
use Rattle.coap_layer.proofs.Copies.FirstMoments.{none_of, some_of, does_of, from_of}
use Rattle.coap_layer.proofs.layer.Layer.due.Goals as goal

pub returns : goal.returns
returns g c =
    let view = ap (λ s. s.state) c.self.view_is in
    let s : State = c.args.self.now.state in
    let now = c.args.now.0 in
    let at : c.later.result.0 ≡ max s.clock now =
    c.later.ensures ∙ ap (λ (x : State). max x.clock now) view in
    let range : max s.clock now < 2 ^ 64 = rw at at c.next_step.ensures.range in
    let here : IsFirstMoment (λ later. any_has_step later s.open_cons) c.later.result.0 c.next_step.result =
    subst (λ (x : State). IsFirstMoment (λ later. any_has_step later x.open_cons) c.later.result.0 c.next_step.result)
    view c.next_step.ensures.first in
    let first : IsFirstMoment (λ later. any_has_step later s.open_cons) (max s.clock now) c.next_step.result =
    subst (λ from. IsFirstMoment (λ later. any_has_step later s.open_cons) from c.next_step.result) at here in
    record {
      none = none_of s.clock now s.open_cons c.next_step.result range first;
      some = some_of s.clock now s.open_cons c.next_step.result first;
      does = does_of s.clock now s.open_cons c.next_step.result first;
      from = from_of (max s.clock now) s.open_cons c.next_step.result first;
      first = first;
    }
