use Rattle.std.proofs.Common.{◌≡◌, ◌-◌, [], refl, ap, arith, map, take, drop, length, length-drop}
use Rattle.std.proofs.lemmas.List.{take_all}
use Rattle.coap_pcap.specs.Files.{Record, seen}
use Rattle.coap_pcap.proofs.Readings.{found_is, packets_more}
use Rattle.coap_pcap.proofs.file.read_packets.Goals as goal

pub loop-rest-init : goal.loop-rest-init
loop-rest-init g c =
    let bytes = c.args.bytes.now in
    let all : take (length bytes - 24) (drop 24 bytes) ≡ drop 24 bytes =
    take_all (length bytes - 24) (drop 24 bytes) (omega (arith, length-drop 24 bytes)) in (
      [],
      (refl, all),
      ap (map seen) c.new-packets.ensures.items,
      omega (
        arith,
        length-drop 24 bytes,
        ap length all,
        c.requires.long,
      ),
    )

pub loop-rest-preserved : goal.loop-rest-preserved
loop-rest-preserved g c =
    let so = c.loop-rest.invariant in
    let taken = c.in-Ok.taken in
    let r : Record = record { at = taken.at.0; packet = taken.packet.now } in
    let more =
    packets_more c.args.head.now c.args.bytes.now c.loop-rest.place c.loop-rest.rest.now so.0 c.loop-rest.packets.items
    c.push.new.self.items (record { at = taken.at; found = c.datagram_in-found.result }) r taken.rest.now so.1 so.2
    c.in-Ok.ensures.taken c.in_ok-push.ensures.items
    refl (found_is c.datagram_in-found.result _ c.datagram_in-found.ensures) in
    (more.0, more.1, more.2, omega (arith, so.3, c.in-Ok.ensures.left))
