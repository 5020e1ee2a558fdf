use Rattle.std.proofs.Common.{inl, inr, refl, sym}
use Rattle.knifesilver.proofs.BlockSizes.{none}
use Rattle.knifesilver.proofs.config.choice_of.Goals as goal

pub returns-in_default-clause-why : goal.returns-in_default-clause-why
returns-in_default-clause-why c = inr (inl (refl, none c.args.config.now.block_size (sym c.in_default.ensures)))
