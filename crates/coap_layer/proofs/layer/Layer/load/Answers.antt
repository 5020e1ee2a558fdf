use Rattle.std.proofs.Common.{◌≡◌, ◌≤◌, ◌∙◌, ap, arith, filter, is_some, length, max, subst}
use Rattle.coap_layer.specs.Machine.Entries.{arrivals_in}
use Rattle.coap_layer.specs.Machine.Load.{IsLayerLoad, ids_left}
use Rattle.coap_layer.specs.Machine.Parts.{held}
use Rattle.coap_layer.specs.Machine.State.{State, is_live}
use Rattle.coap_layer.proofs.Calls.Loads.{forgotten_len, open_len}
use Rattle.coap_layer.proofs.layer.Layer.load.Goals as goal

pub returns : goal.returns
returns g c =
    let h : State = held c.self.inside.most c.self.inside.clock.0 c.self.inside.awaits c.self.inside.ids
    c.self.inside.lists in
    let now = c.args.now.0 in
    let at : c.later-at.result.0 ≡ max h.clock now = c.later-at.ensures in
    let le : h.clock ≤ max h.clock now = omega arith in
    let outstanding = c.outstanding_len.ensures
    ∙ (ap (λ cs. length (filter (λ x. is_some x.last) cs)) c.deref.ensures.value
    ∙ open_len c.self.inside.lists.sendings.items) in
    subst (IsLayerLoad now _) (ap (λ s. s.state) c.self.view_is) (record {
      remembered = c.remembered.ensures
          ∙ (ap (λ t. length (filter (is_live t) h.arrived)) at ∙ forgotten_len h (max h.clock now) le);
      remembered_most = c.get.ensures.number;
      outstanding = outstanding;
      queued = c.len.ensures ∙ c.self.inside.lists.waiting.ok.0;
      ids_left = c.left.ensures ∙ ap (λ t. ids_left t h.upcoming h.last_used) at;
    })
