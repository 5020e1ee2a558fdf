use Rattle.std.proofs.Common.{ℤ, ◌≡◌, ◌∙◌, ap, false, of_z, pos, refl, subst, sym, to_z, true, w32}
use Rattle.std.proofs.Math.Facts.{to_z-of_z}
use Rattle.coap_types.specs.declared.endpoint.Endpoint.{Endpoint}
use Rattle.knifesilver.specs.Answers.{IsAnswered}
use Rattle.knifesilver.specs.ServerCalls.{IsRefuse}
use Rattle.knifesilver.specs.ServerHeld.{Made}
use Rattle.knifesilver.proofs.Either.{either}
use Rattle.knifesilver.proofs.server.refusing.ks_server_refuse.Goals as goal

pub returns-then-answer-eq-DONE-clause-led : goal.returns-then-answer-eq-DONE-clause-led
returns-then-answer-eq-DONE-clause-led c = λ _.
    let given = c.args in
    let there : Endpoint = record { ip = given.from.now.ip; port = given.from.now.port } in
    let done = c.ks_server_refuse_by-answer in
    let same = to_z-of_z {w = w32} {z = done.result} (record { sfits = done.type_inv }) in
    let is : done.result ≡ pos 1 = sym same ∙ ap (λ n. to_z w32 n) c.if-answer-eq-DONE.true in (
      refl,
      true,
      subst (λ (n : ℤ). Made (IsRefuse given.now there given.datagram.now given.word 133 n) given.handle.now.held
          done.new.handle.held) is (done.ensures.led (subst IsAnswered (sym is) tt)),
      done.ensures.noted is,
    )

pub returns-else-answer-eq-DONE-clause-led : goal.returns-else-answer-eq-DONE-clause-led
returns-else-answer-eq-DONE-clause-led c = λ told.
    let given = c.args in
    let there : Endpoint = record { ip = given.from.now.ip; port = given.from.now.port } in
    let done = c.ks_server_refuse_by-answer in
    let same = to_z-of_z {w = w32} {z = done.result} (record { sfits = done.type_inv }) in
    let answered : IsAnswered done.result = subst IsAnswered same told in
    let zero : done.result ≡ pos 0 =
    either (λ is. is) (λ is. absurd (c.if-answer-eq-DONE.false (ap (λ z. of_z w32 z) is))) (done.ensures.tells answered) in (
      same ∙ zero,
      false,
      subst (λ (n : ℤ). Made (IsRefuse given.now there given.datagram.now given.word 133 n) given.handle.now.held
          done.new.handle.held) zero (done.ensures.led answered),
      done.ensures.fed zero,
    )
