use Rattle.std.proofs.Common.{arith}
use Rattle.coap_types.proofs.Facts.Bytes.{are_bytes}
use Rattle.coap_layer.proofs.Calls.JudgedByTable.{read_shows}
use Rattle.coap_layer.proofs.arriving.read.Goals as goal

pub returns : goal.returns
returns c =
    read_shows c.args.bytes.now c.decode.result (are_bytes c.args.bytes.now (λ i. omega (arith, c.type_inv.bytes i)))
    c.decode.ensures.found c.decode.ensures.fault c.decode.ensures.head
