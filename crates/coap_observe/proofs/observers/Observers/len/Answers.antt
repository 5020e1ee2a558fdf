use Rattle.std.proofs.Common.{◌∙◌, ap, length, sym}
use Rattle.std.proofs.lemmas.List.{length-map}
use Rattle.coap_observe.specs.Observers.{Roll}
use Rattle.coap_observe.specs.Shown.{observer_of}
use Rattle.coap_observe.proofs.observers.Observers.len.Goals as goal

pub returns : goal.returns
returns g c = c.len.ensures ∙ (c.self.inside.list.ok.0 ∙ (sym (length-map c.self.inside.list.items observer_of)
    ∙ ap (λ (r : Roll). length r.list) c.self.view_is))
