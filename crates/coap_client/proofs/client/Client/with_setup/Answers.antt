use Rattle.std.proofs.Common.{[]}
use Rattle.coap_client.proofs.Calls.Watched.{led_new}
use Rattle.coap_client.proofs.client.Client.with_setup.Goals as goal

pub invariant_of-result : goal.invariant_of-result
invariant_of-result g c = (
  c.args.server,
  record { szx = c.args.szx; limit = c.args.limit },
  c.args.setup,
  [],
  led_new c.args.server
      (record { szx = c.args.szx; limit = c.args.limit }) c.args.setup _ _ c.new.ensures c.with_setup.ensures.start,
)
