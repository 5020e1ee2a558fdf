use Rattle.std.proofs.Common.{◌≡◌, length}
use Rattle.coap_pcap.specs.Checksums.{sum_on}
use Rattle.coap_pcap.proofs.checksum.sum_on.Given as goal

abbrev pub invariant-loop-rest : goal.invariant-loop-rest
invariant-loop-rest l = sum_on l.sum l.rest ≡ sum_on l.fn.start l.fn.bytes

abbrev pub decreases-loop-rest : goal.decreases-loop-rest
decreases-loop-rest l = length l.rest
