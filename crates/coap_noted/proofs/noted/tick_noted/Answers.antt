use Rattle.std.proofs.Common.{inl, refl}
use Rattle.coap_noted.proofs.noted.tick_noted.Goals as goal

pub returns-then-rests-clause-ticked : goal.returns-then-rests-clause-ticked
returns-then-rests-clause-ticked g c = inl (refl, refl, refl, c.rests.ensures.rests c.if-rests.true)
