use Rattle.std.proofs.Common.{length}
use Rattle.coap_layer.proofs.message_id.left.+rested.Given as goal

abbrev pub decreases-rested : goal.decreases-rested
decreases-rested l = length l.last_used.now
