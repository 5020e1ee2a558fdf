use Rattle.std.proofs.Common.{is_some, take, subst}
use Rattle.std.proofs.lemmas.List.{take_all}
use Rattle.coap_types.specs.FirstMoment.{IsFirstMoment}
use Rattle.coap_exchange.specs.AnswererSteps.{first_ready, is_ready}
use Rattle.coap_exchange.specs.Machine.Listed.{listed}
use Rattle.coap_exchange.proofs.Resting.ServerRests.{taken_ready}
use Rattle.coap_exchange.proofs.deferrals.one_ready_from.Goals as goal

pub loop-request-preserved : goal.loop-request-preserved
loop-request-preserved c =
    let xs = listed c.args.separate.now in
    let ds = c.args.requests.now in
    let i = c.loop-request.request-index in
    let d = c.request-item.result in
    taken_ready xs ds i d c.args.from.0 c.earlier-first.result c.loop-request-test.true c.request-item.is
    (c.earlier-first.ensures (λ now. is_some (first_ready now xs (take i ds))) (λ now. is_ready now xs d) c.args.from.0
    c.loop-request.invariant c.ready_from.ensures)

pub returns : goal.returns
returns c =
    subst (λ es. IsFirstMoment (λ now. is_some (first_ready now (listed c.args.separate.now) es)) c.args.from.0
    c.loop-request.first) (take_all c.loop-request.request-index c.args.requests.now c.loop-request-test.false)
    c.loop-request.invariant
