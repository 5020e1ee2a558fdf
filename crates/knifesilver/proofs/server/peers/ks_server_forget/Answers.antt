use Rattle.std.proofs.Common.{Some, subst, w32}
use Rattle.std.proofs.Math.Facts.{to_z-of_z}
use Rattle.coap_types.specs.declared.endpoint.Endpoint.{Endpoint}
use Rattle.knifesilver.specs.Answers.{IsAnswered}
use Rattle.knifesilver.specs.Forgetting.{BothMade, BothNoted, IsLetGo, KnowsNothingOf, SendsNothingTo}
use Rattle.knifesilver.specs.Known.{TellsKnown}
use Rattle.knifesilver.specs.ServerHeld.{HoldsServerIn}
use Rattle.knifesilver.proofs.Carried.{carried}
use Rattle.knifesilver.proofs.Forgotten.{both_made}
use Rattle.knifesilver.proofs.server.peers.ks_server_forget.Goals as goal

pub returns-clause-led : goal.returns-clause-led
returns-clause-led c =
    let done = c.forget-answer in
    let peer : Endpoint = record { ip = c.args.peer.now.ip; port = c.args.peer.now.port } in
    carried (λ answer old new. IsAnswered answer → BothMade peer old new)
    (to_z-of_z {w = w32} {z = done.result} (record { sfits = done.type_inv }))
    c.in-Some.ensures.taken c.as_mut.ensures.value c.put.ensures
    (λ answered. both_made peer c.as_mut.result.now done.new.held
    (subst (λ from. IsLetGo from (Some c.as_mut.result.now) (Some done.new.held)) c.endpoint.ensures
    (done.ensures.step answered)))

pub returns-clause-step : goal.returns-clause-step
returns-clause-step c =
    let done = c.forget-answer in
    let peer : Endpoint = record { ip = c.args.peer.now.ip; port = c.args.peer.now.port } in
    carried (λ answer old new. IsAnswered answer → IsLetGo peer old new)
    (to_z-of_z {w = w32} {z = done.result} (record { sfits = done.type_inv }))
    c.in-Some.ensures.taken c.as_mut.ensures.value c.put.ensures
    (subst (λ from. IsAnswered done.result → IsLetGo from (Some c.as_mut.result.now) (Some done.new.held))
    c.endpoint.ensures done.ensures.step)

pub returns-clause-noted : goal.returns-clause-noted
returns-clause-noted c =
    let done = c.forget-answer in
    let peer : Endpoint = record { ip = c.args.peer.now.ip; port = c.args.peer.now.port } in
    carried (λ answer old new. IsAnswered answer → BothNoted peer old new)
    (to_z-of_z {w = w32} {z = done.result} (record { sfits = done.type_inv }))
    c.in-Some.ensures.taken c.as_mut.ensures.value c.put.ensures
    (subst (λ from. IsAnswered done.result → BothNoted from (Some c.as_mut.result.now) (Some done.new.held))
    c.endpoint.ensures done.ensures.noted)

pub returns-clause-known : goal.returns-clause-known
returns-clause-known c =
    let done = c.forget-answer in
    let peer : Endpoint = record { ip = c.args.peer.now.ip; port = c.args.peer.now.port } in
    carried (λ answer old new. IsAnswered answer → HoldsServerIn (TellsKnown answer 0 peer) old)
    (to_z-of_z {w = w32} {z = done.result} (record { sfits = done.type_inv }))
    c.in-Some.ensures.taken c.as_mut.ensures.value c.put.ensures
    (subst (λ from. IsAnswered done.result → HoldsServerIn (TellsKnown done.result 0 from) (Some c.as_mut.result.now))
    c.endpoint.ensures done.ensures.known)

pub returns-clause-unknown : goal.returns-clause-unknown
returns-clause-unknown c =
    let done = c.forget-answer in
    let peer : Endpoint = record { ip = c.args.peer.now.ip; port = c.args.peer.now.port } in
    carried (λ answer old new. IsAnswered answer → HoldsServerIn (SendsNothingTo peer) old
    → HoldsServerIn (KnowsNothingOf peer) new)
    (to_z-of_z {w = w32} {z = done.result} (record { sfits = done.type_inv }))
    c.in-Some.ensures.taken c.as_mut.ensures.value c.put.ensures
    (subst (λ from. IsAnswered done.result → HoldsServerIn (SendsNothingTo from) (Some c.as_mut.result.now)
    → HoldsServerIn (KnowsNothingOf from) (Some done.new.held)) c.endpoint.ensures done.ensures.unknown)
