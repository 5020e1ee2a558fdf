use Rattle.std.proofs.Common.{◌≡◌, ◌∙◌, ◌≤◌, Some, length, sym, subst, arith}
use Rattle.coap_types.specs.BlockValue.{BlockSays}
use Rattle.coap_types.specs.Bytes.{AreBytes}
use Rattle.coap_types.specs.Uint.{uint_value}
use Rattle.coap_types.proofs.Facts.Bytes.{are_bytes}
use Rattle.coap_types.proofs.Values.BlocksReadBack.{block_read, block_says}
use Rattle.coap_types.proofs.block.Block.read.Goals as goal

pub returns-clause-block : goal.returns-clause-block
returns-clause-block c =
    let short : length c.args.bytes.now ≤ 3 = omega arith in
    let read : Some c.in_ok-uint_of.field-0 ≡ uint_value c.args.bytes.now = sym c.in_ok-uint_of.was
    ∙ c.uint_of.ensures in
    c.of.ensures.block ∙ block_read c.args.bytes.now c.in_ok-uint_of.field-0 short read

pub returns-clause-when : goal.returns-clause-when
returns-clause-when c =
    let bytes : AreBytes c.args.bytes.now = are_bytes c.args.bytes.now (λ i. omega (arith, c.type_inv.bytes i)) in
    (subst (BlockSays c.args.bytes.now) (sym (returns-clause-block c)) (block_says c.args.bytes.now bytes)).when
