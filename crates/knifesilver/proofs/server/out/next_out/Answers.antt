use Rattle.std.proofs.Common.{subst, sym, w32, Some}
use Rattle.std.proofs.Math.Facts.{to_z-of_z}
use Rattle.knifesilver.specs.Answers.{IsAnswered}
use Rattle.knifesilver.specs.ServerCalls.{IsNextOut}
use Rattle.knifesilver.specs.ServerHeld.{Made}
use Rattle.knifesilver.specs.declared.held.Held.TheVariants.{Server}
use Rattle.knifesilver.proofs.server.out.next_out.Goals as goal

pub returns-in-Server-clause-led : goal.returns-in-Server-clause-led
returns-in-Server-clause-led c = λ answered.
    let out = c.next_of in
    let same = to_z-of_z {w = w32} {z = out.result} (record { sfits = out.type_inv }) in
    subst (λ n. Made (IsNextOut n out.new.to out.new.room out.new.len) (Some c.args.held.now) (Some (Server out.new.server)))
    (sym same) (subst (λ h. Made (IsNextOut out.result out.new.to out.new.room out.new.len) (Some h)
    (Some (Server out.new.server))) (sym c.in-Server.is) (out.ensures.led (subst IsAnswered same answered)))
