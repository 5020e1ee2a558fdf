use Rattle.std.proofs.Common.{ap, ◌∙◌}
use Rattle.coap_client.specs.Calls.{answer}
use Rattle.coap_client.specs.Object.Held.{own_of}
use Rattle.coap_client.proofs.Facts.Calls.Happening.{asks_hears, on_err, over_happens, over_hears, same_call}
use Rattle.coap_client.proofs.client.event.hear_for_call.Goals as goal

pub returns-in-Ok-Over-clause-happens : goal.returns-in-Ok-Over-clause-happens
returns-in-Ok-Over-clause-happens g c =
    let call = c.args.ongoing.call in
    let h = over_hears call (answer call.request call.transfer c.args.m.now) _ _ _ _ c.in-Ok-Over.field-0-is
    c.in-Ok-Over.ensures.hears in
    over_happens c.args.parts.now.asker.state c.args.ongoing.number call.request call.transfer c.hear.new.self.transfer
    (own_of c.args.parts.now.held) _ (answer call.request call.transfer c.args.m.now) _ _ c.args.now.at.0
    c.args.now.word h.0 h.1
    c.end_call.ensures

pub returns-in-Ok-Asks-clause-held : goal.returns-in-Ok-Asks-clause-held
returns-in-Ok-Asks-clause-held g c =
    let call = c.args.ongoing.call in
    let h = asks_hears call (answer call.request call.transfer c.args.m.now) _ _ c.in-Ok-Asks.field-0-is
    c.in-Ok-Asks.ensures.hears in
    on_err c.ask_next.result (λ held. held call.transfer h.2
    ∙ ap (λ r. same_call c.args.ongoing.number r call.transfer (own_of c.args.parts.now.held)) h.0)
    c.ask_next.ensures.held
