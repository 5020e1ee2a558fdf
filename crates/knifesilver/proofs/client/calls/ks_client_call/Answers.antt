use Rattle.std.proofs.Common.{◌≡◌, w32, subst, Some}
use Rattle.std.proofs.Math.Facts.{to_z-of_z}
use Rattle.coap_client.specs.Object.CallShown.{shown_request}
use Rattle.knifesilver.specs.Answers.{IsAnswered}
use Rattle.knifesilver.specs.ClientCalls.{CallsThat, asked}
use Rattle.coap_paths.specs.PathTexts.{spelled}
use Rattle.knifesilver.proofs.Carried.{carried}
use Rattle.knifesilver.proofs.client.calls.ks_client_call.Goals as goal

pub returns-clause-led : goal.returns-clause-led
returns-clause-led c =
    let given = c.args in
    let call = c.call-answer in
    let that = asked given.what.now (spelled given.path.now) given.body.now given.etags.now given.if_match.now in
    carried (λ answer old new. IsAnswered answer → CallsThat given.now that answer call.new.id old new)
    (to_z-of_z {w = w32} {z = call.result} (record { sfits = call.type_inv }))
    c.in-Some.ensures.taken c.as_mut.ensures.value c.put.ensures
    (λ answered. (
      shown_request c.in-Ok-request_of.request,
      subst (λ path. asked given.what.now path given.body.now given.etags.now given.if_match.now
          ≡ Some (shown_request c.in-Ok-request_of.request)) c.in-Ok.ensures.spelled c.in-Ok-request_of.ensures.says,
      call.ensures.led answered,
    ))
