use Rattle.std.proofs.Common.{arith, sym, subst}
use Rattle.std.specs.Fmt.{HasWritten}
use Rattle.coap_codec.proofs.Facts.EveryDatagram.{faulty_decoded, spelled_decoded}
use Rattle.coap_types.proofs.Facts.Bytes.{are_bytes}
use Rattle.coap_print.specs.Datagrams.{read_text}
use Rattle.coap_print.proofs.message_words.write_datagram.Goals as goal

pub returns-in-Ok : goal.returns-in-Ok
returns-in-Ok g c plain ok =
    subst (λ read. HasWritten g.W.Write.write_str_gives c.args.f.now (read_text read) c.write_message.new.f)
    (sym (spelled_decoded c.args.bytes.now c.in-Ok.message c.in-Ok.ensures.found)) (c.write_message.ensures plain ok)

pub returns-in-Err : goal.returns-in-Err
returns-in-Err g c plain ok =
    subst (λ read. HasWritten g.W.Write.write_str_gives c.args.f.now (read_text read) c.write.new.self)
    (sym (faulty_decoded c.args.bytes.now c.in-Err.fault.reason c.in-Err.fault.at
    (are_bytes c.args.bytes.now (λ i. omega (arith, c.type_inv.bytes i))) c.in-Err.ensures.fault))
    (c.write.ensures.writes plain ok)
