use Rattle.std.proofs.Common.{w32}
use Rattle.std.proofs.Math.Facts.{to_z-of_z}
use Rattle.knifesilver.specs.Answers.{IsAnswered}
use Rattle.knifesilver.specs.ClientCalls.{IsCancel}
use Rattle.knifesilver.specs.ClientHeld.{Made}
use Rattle.knifesilver.proofs.Carried.{carried}
use Rattle.knifesilver.proofs.client.calls.ks_client_cancel.Goals as goal

pub returns-clause-led : goal.returns-clause-led
returns-clause-led c =
    carried (λ answer old new. IsAnswered answer → Made (IsCancel c.args.now c.args.id answer) old new)
    (to_z-of_z {w = w32} {z = c.cancel-answer.result} (record { sfits = c.cancel-answer.type_inv }))
    c.in-Some.ensures.taken c.as_mut.ensures.value c.put.ensures c.cancel-answer.ensures.led
