use Rattle.std.proofs.Common.{ap, ◌∙◌}
use Rattle.coap_types.specs.Recognised.{recognised_value}
use Rattle.coap_types.specs.declared.direction.Direction.TheVariants as direction
use Rattle.coap_exchange.proofs.Facts.Requests.{drained}
use Rattle.coap_client.proofs.client.responses.value_in.Goals as goal

pub returns : goal.returns
returns c = let e = c.recognised_value.ensures in
    e.2 ∙ ap (recognised_value direction.Response c.args.number) (drained e.0 _ e.1 ∙ c.options.ensures.list)
