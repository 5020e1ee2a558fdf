use Rattle.std.proofs.Common.{refl, subst, sym}
use Rattle.knifesilver.specs.ClientHeld.{IsClientIn}
use Rattle.knifesilver.specs.Loads.{IsLoadOfClient}
use Rattle.knifesilver.proofs.client.load.tell.Goals as goal

pub returns-in-Client-clause-load : goal.returns-in-Client-clause-load
returns-in-Client-clause-load c = λ _. (
  refl,
  subst (IsClientIn (IsLoadOfClient c.args.now c.client_load.result)) (sym c.in-Client.is)
      (c.load.result, c.load.ensures, c.client_load.ensures),
)
