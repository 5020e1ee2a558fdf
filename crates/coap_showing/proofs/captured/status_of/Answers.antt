use Rattle.std.proofs.Common.{All, List, arith, map, subst}
use Rattle.std.proofs.lemmas.List.{get_or_default, take_all}
use Rattle.coap_pcap.specs.Files.{seen}
use Rattle.coap_pcap.specs.declared.packets.Packet.{Packet}
use Rattle.coap_showing.specs.Captured.{IsSpelled}
use Rattle.coap_showing.proofs.CapturedPackets.{all_more, any_at}
use Rattle.coap_showing.proofs.captured.status_of.Goals as goal

pub returns-then-not-is_spelled : goal.returns-then-not-is_spelled
returns-then-not-is_spelled c =
    let i = c.loop-packet.packet-index in
    any_at seen (λ p. IsSpelled p → ⊥) c.args.packets.now i _
    (get_or_default c.args.packets.now i _ _ c.loop-packet-test.true) c.loop-packet-test.true
    (c.is_spelled.ensures.no c.if-not-is_spelled.true)

pub loop-packet-preserved : goal.loop-packet-preserved
loop-packet-preserved c =
    let i = c.loop-packet.packet-index in
    all_more seen IsSpelled c.args.packets.now i _
    (get_or_default c.args.packets.now i _ _ c.loop-packet-test.true) c.loop-packet-test.true c.loop-packet.invariant
    (c.is_spelled.ensures.yes c.if-not-is_spelled.false)

pub returns : goal.returns
returns c =
    subst (λ (ps : List Packet). All IsSpelled (map seen ps))
    (take_all c.loop-packet.packet-index c.args.packets.now (omega arith)) c.loop-packet.invariant
