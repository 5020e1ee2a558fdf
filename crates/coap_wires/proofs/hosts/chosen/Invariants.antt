use Rattle.std.proofs.Common.{◌≡◌, length}
use Rattle.coap_wires.specs.Hosts.{chosen, first, first_four}
use Rattle.coap_wires.proofs.hosts.chosen.Given as goal

-- none of IPv4 was passed
abbrev pub invariant-addresses : goal.invariant-addresses
invariant-addresses l = chosen l.addresses ≡ first_four l.left (first l.addresses)

abbrev pub decreases-addresses : goal.decreases-addresses
decreases-addresses l = length l.left
