use Rattle.std.proofs.Common.{◌∙◌, is_some, ap}
use Rattle.coap_types.proofs.OneOptionOn.IsSaid.{lent}
use Rattle.coap_types.proofs.recognised_options.carries.Goals as goal

pub returns : goal.returns
returns g c = let e = c.recognised_value.ensures in (e.0, e.1, c.is_some.ensures ∙ lent _ ∙ ap is_some e.2)
