use Rattle.std.proofs.Common.{◌∙◌, ap, sym}
use Rattle.std.specs.List.{list_any}
use Rattle.coap_types.specs.SameEndpoint.{same_endpoint}
use Rattle.coap_observe.specs.Observers.{Observer, Roll}
use Rattle.coap_observe.specs.Shown.{observer_of}
use Rattle.coap_observe.proofs.ListLemmas.{list_any_of_map}
use Rattle.coap_observe.proofs.observers.Observers.observes.Goals as goal

pub returns : goal.returns
returns g c =
    let to = c.args.to in
    c.has_endpoint.ensures ∙ (ap (λ es. list_any (λ e. same_endpoint e.to to) es) c.deref.ensures.value
    ∙ (sym (list_any_of_map observer_of (λ (o : Observer). same_endpoint o.to to) c.self.inside.list.items)
    ∙ ap (λ (r : Roll). list_any (λ (o : Observer). same_endpoint o.to to) r.list) c.self.view_is))
