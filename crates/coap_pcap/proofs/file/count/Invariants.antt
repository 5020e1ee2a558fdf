use Rattle.std.proofs.Common.{◌≡◌, ◌≤◌, ◌+◌, map, drop}
use Rattle.coap_pcap.specs.Files.{count, seen}
use Rattle.coap_pcap.proofs.file.count.Given as goal

abbrev pub invariant-loop-packet : goal.invariant-loop-packet
invariant-loop-packet l = record {
  most : l.n ≤ l.packet-index;
  rest : l.n + count l.skip (map seen (drop l.packet-index l.packets)) ≡ count l.skip (map seen l.packets);
}
