use Rattle.std.proofs.Common.{List, subst}
use Rattle.std.proofs.lemmas.Iterator.{items_from_drains}
use Rattle.std.proofs.lemmas.Iterator.Consumers.{YieldsList-from_first}
use Rattle.std.proofs.lemmas.Result.{IfOk-weaker}
use Rattle.coap_types.specs.CoapOption.{CoapOption, option_of, options_of}
use Rattle.coap_types.specs.Recognised.{Recognised}
use Rattle.coap_types.specs.declared.direction.Direction.TheVariants.{Request}
use Rattle.coap_server.proofs.server.request.recognise.Goals as goal

pub returns : goal.returns
returns g c =
    IfOk-weaker c.recognised.result _ _
    (λ found all.
    subst (λ (os : List CoapOption). Recognised Request os (options_of found.0.items) found.1)
    (items_from_drains all.0 (all.1.1.0, all.1.1.1, λ whole. (all.1.0, all.1.1.2))
    (YieldsList-from_first option_of (λ (s : List CoapOption). s) _ c.options.ensures.list)) all.2)
    c.recognised.ensures
