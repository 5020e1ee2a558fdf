use Rattle.std.proofs.Common.{◌-◌, length}
use Rattle.coap_client.proofs.client.scheduler.+to_fetch_from.Given as goal

abbrev pub decreases-to_fetch_from : goal.decreases-to_fetch_from
decreases-to_fetch_from g l = length l.operations.now.live - l.from
