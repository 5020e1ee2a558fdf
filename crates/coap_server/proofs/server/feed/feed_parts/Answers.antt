use Rattle.std.proofs.Common.{refl, Some}
use Rattle.coap_server.proofs.Calls.FeedIsACall.{fed_by, on_ok}
use Rattle.coap_server.proofs.server.feed.feed_parts.Goals as goal

pub returns-else-is_err-clause-step : goal.returns-else-is_err-clause-step
returns-else-is_err-clause-step g c =
    on_ok c.handle-done.result
    (λ h word.
    let s = c.in_ok-came.ensures.step in
    let f = fed_by _ _ _ c.args.now.0 c.args.from c.args.bytes.now word s.0 c.later-at.result.0 _ c.in-Some.asked
    c.in-Some.request c.later-at.ensures c.in-Some.is s.1 refl h in
    (s.0, Some (c.in-Some.asked, c.in-Some.request), f.0, f.1, f.2))
    c.handle-done.ensures.handled
