use Rattle.std.proofs.Common.{sym, ◌∙◌}
use Rattle.coap_client.proofs.Facts.Calls.Happening.{refused_sends}
use Rattle.coap_client.proofs.client.request.ask.Goals as goal

pub returns-in-Err-Running-clause-sends : goal.returns-in-Err-Running-clause-sends
returns-in-Err-Running-clause-sends g c = let s = c.ask.ensures.step (λ e. cc (sym c.in-Err-Running.is ∙ e)) in
    refused_sends _ _ _ _ _ _ _ s.0 s.1 c.in-Err-Running.is

pub returns-in-Err-NoIds-clause-sends : goal.returns-in-Err-NoIds-clause-sends
returns-in-Err-NoIds-clause-sends g c = let s = c.ask.ensures.step (λ e. cc (sym c.in-Err-NoIds.is ∙ e)) in
    refused_sends _ _ _ _ _ _ _ s.0 s.1 c.in-Err-NoIds.is
