use Rattle.std.proofs.Common.{w32}
use Rattle.std.proofs.Math.Facts.{to_z-of_z}
use Rattle.knifesilver.specs.Answers.{IsAnswered}
use Rattle.knifesilver.specs.ServerCalls.{IsNextOut}
use Rattle.knifesilver.specs.ServerHeld.{Made}
use Rattle.knifesilver.proofs.Carried.{carried}
use Rattle.knifesilver.proofs.server.out.ks_server_next_out.Goals as goal

pub returns-clause-led : goal.returns-clause-led
returns-clause-led c =
    let out = c.next_out-answer in
    carried (λ answer old new. IsAnswered answer
    → Made (IsNextOut answer out.new.to out.new.room out.new.len) old new)
    (to_z-of_z {w = w32} {z = out.result} (record { sfits = out.type_inv }))
    c.in-Some.ensures.taken c.as_mut.ensures.value c.put.ensures out.ensures.led
