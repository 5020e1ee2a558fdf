use Rattle.std.proofs.Common.{◌-◌, length}
use Rattle.coap_client.proofs.client.observations.+place_from.Given as goal

abbrev pub decreases-place_from : goal.decreases-place_from
decreases-place_from g l = length l.operations.now.live - l.from
