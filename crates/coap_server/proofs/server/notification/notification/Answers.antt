use Rattle.std.proofs.Common.{true, None, ap, ◌∙◌}
use Rattle.coap_observe.specs.Notices.{told}
use Rattle.coap_server.specs.Notifying as next
use Rattle.coap_server.specs.Responses.{response_with}
use Rattle.coap_server.proofs.server.notification.notification.Goals as goal

pub returns-clause-response : goal.returns-clause-response
returns-clause-response g c =
    let o = told c.args.notice.now true in
    let store = g.S.Store.content c.args.store.now in
    c.of.ensures ∙ (ap (λ r. response_with r c.sequence_of-sequence.result None) c.lent-response.ensures.got
    ∙ ap (λ n. response_with (next.told store o) n None) c.sequence_of-sequence.ensures)
