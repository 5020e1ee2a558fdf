use Rattle.std.proofs.Common.{All, map, take}
use Rattle.coap_pcap.specs.Files.{seen}
use Rattle.coap_showing.specs.Captured.{IsSpelled}
use Rattle.coap_showing.proofs.captured.status_of.Given as goal

-- so far each of the first of them spells a message
abbrev pub invariant-loop-packet : goal.invariant-loop-packet
invariant-loop-packet l = All IsSpelled (map seen (take l.packet-index l.packets))
