use Rattle.std.proofs.Common.{ap, ◌∙◌}
use Rattle.coap_types.specs.Recognised.{carries}
use Rattle.coap_types.specs.declared.direction.Direction.TheVariants as direction
use Rattle.coap_exchange.proofs.Calls.DrainedOptions.{drained}
use Rattle.coap_exchange.proofs.arrivals.is_notification.Goals as goal

pub returns : goal.returns
returns c = let e = c.carries.ensures in e.2 ∙ ap (carries direction.Response 6)
    (drained e.0 _ e.1 ∙ c.options.ensures.list)
