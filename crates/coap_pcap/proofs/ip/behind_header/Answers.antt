use Rattle.std.proofs.Common.{◌-◌, ◌∙◌, sym, arith, drop, length, length-drop}
use Rattle.std.proofs.lemmas.List.{take_all}
use Rattle.coap_pcap.proofs.ip.behind_header.Goals as goal

pub returns-then-bytes-len : goal.returns-then-bytes-len
returns-then-bytes-len c =
    let bytes = c.args.bytes.now in
    take_all (length bytes - 40) (drop 40 bytes) (omega (arith, length-drop 40 bytes))
    ∙ sym (take_all c.args.len (drop 40 bytes) (omega (arith, length-drop 40 bytes, c.if-bytes-len.true)))
