use Rattle.std.proofs.Common.{◌≡◌, pos, w32}
use Rattle.std.proofs.Math.Facts.{to_z-of_z}
use Rattle.coap_journal.specs.Input.{Feed, Refuse}
use Rattle.knifesilver.specs.Answers.{IsAnswered}
use Rattle.knifesilver.specs.ServerCalls.{IsRefuse}
use Rattle.knifesilver.specs.ServerHeld.{IsNoted, Made}
use Rattle.knifesilver.proofs.Carried.{carried}
use Rattle.knifesilver.proofs.server.refusing.refuse_of.Goals as goal

pub returns-clause-led : goal.returns-clause-led
returns-clause-led c =
    let given = c.args in
    carried (λ answer old new. IsAnswered answer
    → Made (IsRefuse given.now given.from given.datagram.now given.word given.error answer) old new)
    (to_z-of_z {w = w32} {z = c.refuse-answer.result} (record { sfits = c.refuse-answer.type_inv }))
    c.in-Some.ensures.taken c.as_mut.ensures.value c.put.ensures c.refuse-answer.ensures.led

pub returns-clause-noted : goal.returns-clause-noted
returns-clause-noted c =
    let given = c.args in
    carried (λ answer old new. answer ≡ pos 1
    → IsNoted (Refuse given.now given.from given.datagram.now given.word given.error) given.now old new)
    (to_z-of_z {w = w32} {z = c.refuse-answer.result} (record { sfits = c.refuse-answer.type_inv }))
    c.in-Some.ensures.taken c.as_mut.ensures.value c.put.ensures c.refuse-answer.ensures.noted

pub returns-clause-fed : goal.returns-clause-fed
returns-clause-fed c =
    let given = c.args in
    carried (λ answer old new. answer ≡ pos 0
    → IsNoted (Feed given.now given.from given.datagram.now given.word) given.now old new)
    (to_z-of_z {w = w32} {z = c.refuse-answer.result} (record { sfits = c.refuse-answer.type_inv }))
    c.in-Some.ensures.taken c.as_mut.ensures.value c.put.ensures c.refuse-answer.ensures.fed
