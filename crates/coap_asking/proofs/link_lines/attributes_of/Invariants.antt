use Rattle.std.proofs.Common.{length}
use Rattle.coap_asking.proofs.link_lines.attributes_of.Given as goal

abbrev pub decreases-attributes : goal.decreases-attributes
decreases-attributes l = length l.left
