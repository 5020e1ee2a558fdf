use Rattle.std.proofs.Common.{List, ap, ◌∙◌}
use Rattle.std.proofs.lemmas.Iterator.{items_from_drains}
use Rattle.std.proofs.lemmas.Iterator.Consumers.{YieldsList-from_first}
use Rattle.coap_types.specs.CoapOption.{CoapOption, option_of}
use Rattle.coap_types.specs.Recognised.{lacks_critical}
use Rattle.coap_types.specs.declared.direction.Direction.TheVariants.{Request}
use Rattle.coap_server.proofs.server.refusing.is_bad.Goals as goal

pub returns : goal.returns
returns c =
    let e = c.lacks_critical.ensures in
    e.2 ∙ ap (lacks_critical Request)
    (items_from_drains e.0 (e.1.1.0, e.1.1.1, λ whole. (e.1.0, e.1.1.2))
    (YieldsList-from_first option_of (λ (s : List CoapOption). s) _ c.options.ensures.list))
