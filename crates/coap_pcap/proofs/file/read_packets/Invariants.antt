use Rattle.std.proofs.Common.{◌≡◌, ◌+◌, List, length, map, drop}
use Rattle.coap_pcap.specs.Files.{Record, Splits, seen, seen_of}
use Rattle.coap_pcap.proofs.file.read_packets.Given as goal

abbrev pub invariant-loop-rest : goal.invariant-loop-rest
invariant-loop-rest g l =
    (records : List Record) × Splits l.head 24 (drop 24 l.bytes) records l.place l.rest
    × (map seen l.packets.items ≡ map (seen_of l.head.link) records)
    × (l.place + length l.rest ≡ length l.bytes)

abbrev pub decreases-loop-rest : goal.decreases-loop-rest
decreases-loop-rest g l = length l.rest
