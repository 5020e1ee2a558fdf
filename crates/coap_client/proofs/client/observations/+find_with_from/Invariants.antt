use Rattle.std.proofs.Common.{◌-◌, length}
use Rattle.coap_client.proofs.client.observations.+find_with_from.Given as goal

abbrev pub decreases-find_with_from : goal.decreases-find_with_from
decreases-find_with_from g l = length l.operations.now.live - l.from
