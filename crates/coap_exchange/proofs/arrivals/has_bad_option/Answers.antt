use Rattle.std.proofs.Common.{ap, ◌∙◌}
use Rattle.coap_types.specs.Recognised.{lacks_critical}
use Rattle.coap_types.specs.declared.direction.Direction.TheVariants as direction
use Rattle.coap_exchange.proofs.Calls.DrainedOptions.{drained}
use Rattle.coap_exchange.proofs.arrivals.has_bad_option.Goals as goal

pub returns : goal.returns
returns c = let e = c.lacks_critical.ensures in e.2
    ∙ ap (lacks_critical direction.Response) (drained e.0 _ e.1 ∙ c.options.ensures.list)
