use Rattle.std.proofs.Common.{w32, subst, Some}
use Rattle.std.proofs.Math.Facts.{to_z-of_z}
use Rattle.coap_journal.specs.Input.{Feed}
use Rattle.knifesilver.specs.Answers.{IsAnswered}
use Rattle.knifesilver.specs.ServerCalls.{IsFeed}
use Rattle.knifesilver.specs.ServerHeld.{IsNoted, Made}
use Rattle.knifesilver.proofs.Carried.{carried}
use Rattle.knifesilver.proofs.server.turns.ks_server_feed.Goals as goal

pub returns-clause-led : goal.returns-clause-led
returns-clause-led c =
    let given = c.args in
    let from = given.from.now in
    carried (λ answer old new. IsAnswered answer
    → Made (IsFeed given.now (record { ip = from.ip; port = from.port }) given.datagram.now given.word) old new)
    (to_z-of_z {w = w32} {z = c.feed-answer.result} (record { sfits = c.feed-answer.type_inv }))
    c.in-Some.ensures.taken c.as_mut.ensures.value c.put.ensures
    (subst (λ from. IsAnswered c.feed-answer.result → Made (IsFeed given.now from given.datagram.now given.word)
    (Some c.as_mut.result.now) (Some c.feed-answer.new.held)) c.endpoint.ensures c.feed-answer.ensures.led)

pub returns-clause-noted : goal.returns-clause-noted
returns-clause-noted c =
    let given = c.args in
    let from = given.from.now in
    carried (λ answer old new. IsAnswered answer
    → IsNoted (Feed given.now (record { ip = from.ip; port = from.port }) given.datagram.now given.word) given.now old new)
    (to_z-of_z {w = w32} {z = c.feed-answer.result} (record { sfits = c.feed-answer.type_inv }))
    c.in-Some.ensures.taken c.as_mut.ensures.value c.put.ensures
    (subst (λ from. IsAnswered c.feed-answer.result → IsNoted (Feed given.now from given.datagram.now given.word) given.now
    (Some c.as_mut.result.now) (Some c.feed-answer.new.held)) c.endpoint.ensures c.feed-answer.ensures.noted)
