use Rattle.std.proofs.Common.{ℕ, ◌≡◌, pos, subst, sym, w32}
use Rattle.std.proofs.Math.Facts.{to_z-of_z}
use Rattle.coap_journal.specs.Input.{Feed, Refuse}
use Rattle.coap_types.specs.declared.endpoint.Endpoint.{Endpoint}
use Rattle.knifesilver.specs.Answers.{IsAnswered}
use Rattle.knifesilver.specs.ServerCalls.{IsRefuse}
use Rattle.knifesilver.specs.ServerHeld.{IsNoted, Made}
use Rattle.knifesilver.proofs.server.refusing.ks_server_refuse_by.Goals as goal

pub returns-in-Some-clause-led : goal.returns-in-Some-clause-led
returns-in-Some-clause-led c = λ answered.
    let given = c.args in
    let there : Endpoint = record { ip = given.from.now.ip; port = given.from.now.port } in
    let done = c.refuse_of in
    let same = to_z-of_z {w = w32} {z = done.result} (record { sfits = done.type_inv }) in
    subst (λ n. Made (IsRefuse given.now there given.datagram.now given.word given.code n) given.handle.now.held
    done.new.handle.held) (sym same)
    (subst (λ (code : ℕ). Made (IsRefuse given.now there given.datagram.now given.word code done.result)
    given.handle.now.held done.new.handle.held) c.in-Some.ensures.1
    (subst (λ (from : Endpoint). Made (IsRefuse given.now from given.datagram.now given.word c.in-Some.error done.result)
    given.handle.now.held done.new.handle.held) c.endpoint.ensures (done.ensures.led (subst IsAnswered same answered))))

pub returns-in-Some-clause-noted : goal.returns-in-Some-clause-noted
returns-in-Some-clause-noted c = λ answered.
    let given = c.args in
    let there : Endpoint = record { ip = given.from.now.ip; port = given.from.now.port } in
    let done = c.refuse_of in
    let same = to_z-of_z {w = w32} {z = done.result} (record { sfits = done.type_inv }) in
    subst (λ (code : ℕ). IsNoted (Refuse given.now there given.datagram.now given.word code) given.now
    given.handle.now.held done.new.handle.held) c.in-Some.ensures.1
    (subst (λ (from : Endpoint). IsNoted (Refuse given.now from given.datagram.now given.word c.in-Some.error) given.now
    given.handle.now.held done.new.handle.held) c.endpoint.ensures
    (done.ensures.noted (subst (λ n. n ≡ pos 1) same answered)))

pub returns-in-Some-clause-fed : goal.returns-in-Some-clause-fed
returns-in-Some-clause-fed c = λ answered.
    let given = c.args in
    let there : Endpoint = record { ip = given.from.now.ip; port = given.from.now.port } in
    let done = c.refuse_of in
    let same = to_z-of_z {w = w32} {z = done.result} (record { sfits = done.type_inv }) in
    subst (λ (from : Endpoint). IsNoted (Feed given.now from given.datagram.now given.word) given.now
    given.handle.now.held done.new.handle.held) c.endpoint.ensures
    (done.ensures.fed (subst (λ n. n ≡ pos 0) same answered))
