use Rattle.std.proofs.Common.{◌≡◌, length}
use Rattle.coap_pcap.specs.Links.{behind_tags}
use Rattle.coap_pcap.proofs.link.behind_tags.Given as goal

abbrev pub invariant-loop-rest : goal.invariant-loop-rest
invariant-loop-rest l = behind_tags l.rest ≡ behind_tags l.fn.bytes

abbrev pub decreases-loop-rest : goal.decreases-loop-rest
decreases-loop-rest l = length l.rest
