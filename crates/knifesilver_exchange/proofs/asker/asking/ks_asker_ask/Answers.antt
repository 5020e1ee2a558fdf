use Rattle.std.proofs.Common.{◌≢◌, ap, pos, sym, w32, ◌∙◌}
use Rattle.std.proofs.Math.Facts.{to_z-of_z}
use Rattle.coap_types.specs.CoapOption.{options_of}
use Rattle.knifesilver_exchange.specs.Answers.{IsAnswered}
use Rattle.knifesilver_exchange.specs.AskerHeld.{AskerMade}
use Rattle.knifesilver_exchange.specs.Asking.{Asks}
use Rattle.knifesilver_exchange.proofs.Asked.{asks_so, has_code, same_request}
use Rattle.knifesilver_exchange.proofs.Carried.{carried}
use Rattle.knifesilver_exchange.proofs.asker.asking.ks_asker_ask.Goals as goal

pub returns-clause-led : goal.returns-clause-led
returns-clause-led c =
    let given = c.args in
    let call = c.ask-answer in
    carried (λ answer old new. IsAnswered answer → answer ≢ pos 123
    → AskerMade (Asks given.now given.message.now given.word answer call.new.token) old new)
    (to_z-of_z {w = w32} {z = call.result} (record { sfits = call.type_inv }))
    c.in-Some-take.ensures.taken c.as_mut.ensures.value c.put.ensures
    (λ answered other. asks_so given.now given.word given.message.now call.result call.new.token c.in-Ok.view _
    c.as_mut.result.now call.new.held c.in-Ok.ensures.found
    (same_request _ _ _ _ _ _ _ _ (has_code _ c.in-Some.method (sym c.in-Some.ensures) ∙ c.code.ensures)
    (c.as_ref.ensures.value ∙ c.cancelled-cancelled.ensures)
    (ap options_of c.deref.ensures.value ∙ c.in-Ok-options_in.ensures) c.payload.ensures)
    (call.ensures.led answered))
