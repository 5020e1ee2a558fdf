use Rattle.std.proofs.Common.{ap, w32, ◌∙◌}
use Rattle.std.proofs.Math.Facts.{to_z-of_z}
use Rattle.coap_types.specs.CoapOption.{options_of}
use Rattle.knifesilver_exchange.specs.Answers.{IsNamed}
use Rattle.knifesilver_exchange.specs.Calls.{RefusesRespond}
use Rattle.knifesilver_exchange.specs.Held.{IsNamedFor}
use Rattle.knifesilver_exchange.proofs.Carried.{carried}
use Rattle.knifesilver_exchange.proofs.Named.{respond_named, same_response}
use Rattle.knifesilver_exchange.proofs.answerer.answering.ks_answerer_respond.Goals as goal

pub returns-clause-named : goal.returns-clause-named
returns-clause-named c =
    let told = c.args.asked.now in
    let message = c.args.message.now in
    let call = c.respond-answer in
    carried (λ answer old new. IsNamed answer → IsNamedFor answer (RefusesRespond told message) old)
    (to_z-of_z {w = w32} {z = call.result} (record { sfits = call.type_inv }))
    c.in-Some-take.ensures.taken c.as_mut.ensures.value c.put.ensures
    (λ named. respond_named call.result told message c.in-Some.asked c.in-Ok.view _ c.as_mut.result.now
    c.in-Some.ensures.some
    c.in-Ok.ensures.found
    (same_response _ _ _ _ _ _ c.code.ensures (ap options_of c.deref.ensures.value ∙ c.in-Ok-options_in.ensures)
    c.payload.ensures) (call.ensures.named named))
