use Rattle.std.proofs.Common.{sym}
use Rattle.coap_codec.proofs.Datagrams.HeaderAndToken.{frame_none, frame_long}
use Rattle.coap_codec.proofs.Datagrams.ReadAsSpelled.{message_fault}
use Rattle.coap_codec.proofs.Datagrams.EveryDatagram.{reads_body}
use Rattle.coap_codec.proofs.decoder.read.Goals as goal

pub fault-requires : goal.fault-requires
fault-requires c = frame_long c.args.bytes.now c.in-Some.reason c.in-Some.at (sym c.in-Some.ensures)

pub returns-in-Some : goal.returns-in-Some
returns-in-Some c =
    let e = message_fault c.args.bytes.now (c.in-Some.reason, c.in-Some.at) (sym c.in-Some.ensures) in
    let r = c.fault.ensures.reason in
    let a = c.fault.ensures.at in
    (rw (r, a) e, rw r c.fault.ensures.head)

pub body-requires : goal.body-requires
body-requires c = frame_none c.args.bytes.now (sym c.in_default.ensures)

pub returns : goal.returns
returns c = reads_body c.args.bytes.now c.body.result (sym c.in_default.ensures) c.body.ensures
