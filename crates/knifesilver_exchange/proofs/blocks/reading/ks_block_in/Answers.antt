use Rattle.std.proofs.Common.{None, Option, subst}
use Rattle.coap_types.specs.declared.block.Block.{Block}
use Rattle.coap_codec.proofs.Facts.EveryDatagram.{one_message}
use Rattle.coap_codec.specs.Message.{Message}
use Rattle.knifesilver_exchange.specs.Blocks.{SaysBlock}
use Rattle.knifesilver_exchange.proofs.blocks.reading.ks_block_in.Goals as goal

pub returns-in_default-clause-nothing : goal.returns-in_default-clause-nothing
returns-in_default-clause-nothing c = λ _ m spells. absurd (c.in_default.ensures.none m spells)

pub returns-in-Ok-None-clause-nothing : goal.returns-in-Ok-None-clause-nothing
returns-in-Ok-None-clause-nothing c = λ _ m spells.
    subst (λ (x : Message). SaysBlock c.args.number x None)
    (one_message c.args.datagram.now c.in-Ok.view m c.in-Ok.ensures.found spells)
    (subst (λ (b : Option Block). SaysBlock c.args.number c.in-Ok.view b) c.in-Ok-None.field-0-is
    c.in-Ok-None.ensures.ok)
