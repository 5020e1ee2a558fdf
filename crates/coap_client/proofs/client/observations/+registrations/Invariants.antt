use Rattle.std.proofs.Common.{◌-◌, length}
use Rattle.coap_client.proofs.client.observations.+registrations.Given as goal

abbrev pub decreases-registrations : goal.decreases-registrations
decreases-registrations g l = length l.operations.now.queue - l.from
