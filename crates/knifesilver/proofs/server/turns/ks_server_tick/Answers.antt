use Rattle.std.proofs.Common.{w32}
use Rattle.std.proofs.Math.Facts.{to_z-of_z}
use Rattle.knifesilver.specs.Answers.{IsAnswered}
use Rattle.knifesilver.specs.ServerCalls.{Ticked}
use Rattle.knifesilver.proofs.Carried.{carried}
use Rattle.knifesilver.proofs.server.turns.ks_server_tick.Goals as goal

pub returns-clause-led : goal.returns-clause-led
returns-clause-led c =
    carried (λ answer old new. IsAnswered answer → Ticked c.args.now c.args.word answer old new)
    (to_z-of_z {w = w32} {z = c.tick-answer.result} (record { sfits = c.tick-answer.type_inv }))
    c.in-Some.ensures.taken c.as_mut.ensures.value c.put.ensures c.tick-answer.ensures.led
