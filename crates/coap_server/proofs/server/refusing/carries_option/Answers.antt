use Rattle.std.proofs.Common.{List, ap, ◌∙◌}
use Rattle.std.proofs.lemmas.Iterator.{items_from_drains}
use Rattle.std.proofs.lemmas.Iterator.Consumers.{YieldsList-from_first}
use Rattle.coap_types.specs.CoapOption.{CoapOption, option_of}
use Rattle.coap_types.specs.Recognised.{carries}
use Rattle.coap_types.specs.declared.direction.Direction.TheVariants.{Request}
use Rattle.coap_server.proofs.server.refusing.carries_option.Goals as goal

pub returns : goal.returns
returns c =
    let e = c.carries.ensures in
    e.2 ∙ ap (carries Request c.args.number)
    (items_from_drains e.0 (e.1.1.0, e.1.1.1, λ whole. (e.1.0, e.1.1.2))
    (YieldsList-from_first option_of (λ (s : List CoapOption). s) _ c.options.ensures.list))
