use Rattle.std.proofs.Common.{arith}
use Rattle.coap_types.proofs.Facts.Bytes.{are_bytes}
use Rattle.coap_codec.proofs.Datagrams.EveryDatagram.{reads_found, reads_only, reads_none, reads_fault}
use Rattle.coap_codec.proofs.decoder.decode.Goals as goal

pub returns-clause-found : goal.returns-clause-found
returns-clause-found c = reads_found c.args.bytes.now c.read.result
    (are_bytes c.args.bytes.now (λ i. omega (arith, c.type_inv.bytes i))) c.read.ensures

pub returns-clause-only : goal.returns-clause-only
returns-clause-only c = reads_only c.args.bytes.now c.read.result
    (are_bytes c.args.bytes.now (λ i. omega (arith, c.type_inv.bytes i))) c.read.ensures

pub returns-clause-none : goal.returns-clause-none
returns-clause-none c = reads_none c.args.bytes.now c.read.result
    (are_bytes c.args.bytes.now (λ i. omega (arith, c.type_inv.bytes i))) c.read.ensures

pub returns-clause-fault : goal.returns-clause-fault
returns-clause-fault c = reads_fault c.args.bytes.now c.read.result
    (are_bytes c.args.bytes.now (λ i. omega (arith, c.type_inv.bytes i))) c.read.ensures
