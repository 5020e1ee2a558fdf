use Rattle.std.proofs.Common.{◌≡◌, length, subst, w32, Some}
use Rattle.std.proofs.Math.Facts.{to_z-of_z}
use Rattle.knifesilver.specs.Answers.{IsAnswered}
use Rattle.knifesilver.specs.ServerCalls.{IsApplied, IsAppliedLong}
use Rattle.knifesilver.specs.ServerHeld.{Made}
use Rattle.knifesilver.specs.declared.answers.TheConstants.{SMALL_ROOM}
use Rattle.knifesilver.proofs.Carried.{carried}
use Rattle.knifesilver.proofs.server.out.ks_server_applied.Goals as goal

pub returns-clause-led : goal.returns-clause-led
returns-clause-led c =
    let applied = c.applied-answer in
    carried (λ answer old new. IsAnswered answer → Made (IsApplied answer applied.new.told applied.new.room) old new)
    (to_z-of_z {w = w32} {z = applied.result} (record { sfits = applied.type_inv }))
    c.in-Some.ensures.taken c.as_ref.ensures c.put.ensures
    (subst (λ left. IsAnswered applied.result → Made (IsApplied applied.result applied.new.told applied.new.room)
    (Some c.as_ref.result.now) (Some left)) c.as_ref.ensures applied.ensures.led)

pub returns-clause-long : goal.returns-clause-long
returns-clause-long c =
    let applied = c.applied-answer in
    carried (λ answer old new. answer ≡ SMALL_ROOM → Made (IsAppliedLong (length c.args.room.now)) old new)
    (to_z-of_z {w = w32} {z = applied.result} (record { sfits = applied.type_inv }))
    c.in-Some.ensures.taken c.as_ref.ensures c.put.ensures
    (subst (λ left. applied.result ≡ SMALL_ROOM → Made (IsAppliedLong (length c.args.room.now))
    (Some c.as_ref.result.now) (Some left)) c.as_ref.ensures applied.ensures.long)
