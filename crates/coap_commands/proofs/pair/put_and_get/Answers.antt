use Rattle.coap_client.specs.Object.CallShown.{shown_request}
use Rattle.coap_commands.proofs.PairCalls.{differing_pair, equal_pair, failed_pair}
use Rattle.coap_commands.proofs.pair.put_and_get.Goals as goal

pub returns-then-not-branch : goal.returns-then-not-branch
returns-then-not-branch g c =
    failed_pair _ _ c.args.path.now c.args.body.now (shown_request c.in_ok-request.request) c.in_ok-put.put
    c.args.client.now _
    c.in_ok-request.ensures c.in_ok-put.ensures (c.in_ok-tell_put.ensures.no c.if-not-branch.true)
    c.in_ok-tell_put.ensures.printed

pub returns-then-branch : goal.returns-then-branch
returns-then-branch g c =
    equal_pair _ _ c.args.path.now c.args.body.now (shown_request c.in_ok-request.request)
    (shown_request c.in_ok-request-2.request) c.in_ok-put.put c.in_ok-got.got c.args.client.now _ _
    c.in_ok-request.ensures
    c.in_ok-request-2.ensures c.in_ok-put.ensures (c.in_ok-tell_put.ensures.yes c.if-not-branch.false)
    c.in_ok-got.ensures
    (c.in_ok-tell_get.ensures.yes c.if-branch.true)
    (_, c.in_ok-tell_put.ensures.printed, c.in_ok-tell_get.ensures.printed)

pub returns : goal.returns
returns g c =
    differing_pair _ _ c.args.path.now c.args.body.now (shown_request c.in_ok-request.request)
    (shown_request c.in_ok-request-2.request) c.in_ok-put.put c.in_ok-got.got c.args.client.now _ _
    c.in_ok-request.ensures
    c.in_ok-request-2.ensures c.in_ok-put.ensures (c.in_ok-tell_put.ensures.yes c.if-not-branch.false)
    c.in_ok-got.ensures
    (c.in_ok-tell_get.ensures.no c.if-branch.false)
    (_, c.in_ok-tell_put.ensures.printed, c.in_ok-tell_get.ensures.printed)
