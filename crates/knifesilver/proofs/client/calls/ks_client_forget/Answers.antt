use Rattle.std.proofs.Common.{w32}
use Rattle.std.proofs.Math.Facts.{to_z-of_z}
use Rattle.knifesilver.specs.Answers.{IsAnswered}
use Rattle.knifesilver.specs.ClientCalls.{IsForget}
use Rattle.knifesilver.specs.ClientHeld.{Made}
use Rattle.knifesilver.proofs.Carried.{carried}
use Rattle.knifesilver.proofs.client.calls.ks_client_forget.Goals as goal

pub returns-clause-led : goal.returns-clause-led
returns-clause-led c =
    carried (λ answer old new. IsAnswered answer → Made (IsForget c.args.id answer) old new)
    (to_z-of_z {w = w32} {z = c.forget-answer.result} (record { sfits = c.forget-answer.type_inv }))
    c.in-Some.ensures.taken c.as_mut.ensures.value c.put.ensures c.forget-answer.ensures.led
