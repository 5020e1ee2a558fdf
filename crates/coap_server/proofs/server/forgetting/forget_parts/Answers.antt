use Rattle.coap_server.proofs.Calls.PeerIsForgotten.{forgets_in}
use Rattle.coap_server.proofs.server.forgetting.forget_parts.Goals as goal

pub returns-clause-step : goal.returns-clause-step
returns-clause-step g c =
    forgets_in c.feed_parts-heard.result _ _ _ c.args.peer _ c.rejected_id-id.result.0 c.rejected_id-id.ensures.is
    c.reset-rejects.ensures c.rejected_id-id.ensures.small c.feed_parts-heard.ensures.quiet
    c.feed_parts-heard.ensures.step
    c.let_go.ensures.step
