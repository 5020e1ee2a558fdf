use Rattle.std.proofs.Common.{ap, inl, Err}
use Rattle.coap_page.proofs.FromEvents.{of_events, ok_map}
use Rattle.coap_page.proofs.telling.events_told.Goals as goal

pub returns-in-Ok : goal.returns-in-Ok
returns-in-Ok g c = λ script says.
    ok_map c.run_told.result _ _
    (λ told h. of_events script c.args.plains.now _ _ told.ended told.text.items c.in-Ok.ensures.ok says h)
    c.run_told.ensures

pub returns-in-Err-Plains : goal.returns-in-Err-Plains
returns-in-Err-Plains g c = λ script says.
    inl (c.new.ensures.items, c.in-Err-Plains.ensures.none (ap Err c.in-Err-Plains.field-0-is))
