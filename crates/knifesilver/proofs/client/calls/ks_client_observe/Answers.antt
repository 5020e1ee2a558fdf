use Rattle.std.proofs.Common.{w32, subst, Some}
use Rattle.std.proofs.Math.Facts.{to_z-of_z}
use Rattle.knifesilver.specs.Answers.{IsAnswered}
use Rattle.knifesilver.specs.ClientCalls.{IsObserve}
use Rattle.knifesilver.specs.ClientHeld.{Made}
use Rattle.coap_paths.specs.PathTexts.{spelled}
use Rattle.knifesilver.proofs.Carried.{carried}
use Rattle.knifesilver.proofs.client.calls.ks_client_observe.Goals as goal

pub returns-clause-led : goal.returns-clause-led
returns-clause-led c =
    let given = c.args in
    let observe = c.observe-answer in
    carried (λ answer old new. IsAnswered answer
    → Made (IsObserve given.now (spelled given.path.now) answer observe.new.id) old new)
    (to_z-of_z {w = w32} {z = observe.result} (record { sfits = observe.type_inv }))
    c.in-Some.ensures.taken c.as_mut.ensures.value c.put.ensures
    (subst (λ path. IsAnswered observe.result → Made (IsObserve given.now path observe.result observe.new.id)
    (Some c.as_mut.result.now) (Some observe.new.held)) c.in-Ok.ensures.spelled observe.ensures.led)
