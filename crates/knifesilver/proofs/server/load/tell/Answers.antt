use Rattle.std.proofs.Common.{refl, subst, sym}
use Rattle.knifesilver.specs.Loads.{IsServerLoad}
use Rattle.knifesilver.specs.ServerHeld.{IsServerIn}
use Rattle.knifesilver.proofs.server.load.tell.Goals as goal

pub returns-in-Server-clause-load : goal.returns-in-Server-clause-load
returns-in-Server-clause-load c = λ _. (
  refl,
  subst (IsServerIn (IsServerLoad c.args.now c.server_load.result)) (sym c.in-Server.is)
      (c.load.result, c.load.ensures, c.server_load.ensures),
)
