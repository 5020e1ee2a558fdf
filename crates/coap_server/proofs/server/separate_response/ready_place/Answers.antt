use Rattle.std.proofs.Common.{true, false, sym, ◌∙◌, arith}
use Rattle.coap_server.specs.Object.Shown.{waiting_as}
use Rattle.coap_server.proofs.Calls.WaitingLists.{question_found, left_found, question_passes, left_passes}
use Rattle.coap_server.proofs.Calls.WaitingLists.{same_is}
use Rattle.coap_server.proofs.server.separate_response.ready_place.Goals as goal

pub returns-then-is_ready-clause-question : goal.returns-then-is_ready-clause-question
returns-then-is_ready-clause-question g c szx w =
    let is = same_is (waiting_as szx) c.args.at.0 c.args.asked.now c.args.waiting.now c.requests.i
    c.index-waiting-i.result w c.is_ready.result true (omega (arith, c.requests-test.true)) c.index-waiting-i.is
    (c.is_ready.ensures szx) c.if-is_ready.true in
    sym (c.requests.invariant szx).0 ∙ question_found
    (waiting_as szx) c.args.at.0 c.args.asked.now c.args.waiting.now c.requests.i w
    (omega (arith, c.requests-test.true)) is

pub returns-then-is_ready-clause-left : goal.returns-then-is_ready-clause-left
returns-then-is_ready-clause-left g c szx =
    let w = c.index-waiting-i.result in
    let is = same_is (waiting_as szx) c.args.at.0 c.args.asked.now c.args.waiting.now c.requests.i w w c.is_ready.result
    true (omega (arith, c.requests-test.true)) c.index-waiting-i.is (c.is_ready.ensures szx) c.if-is_ready.true in
    left_found (waiting_as szx) c.args.at.0 c.args.asked.now c.args.waiting.now c.requests.i w
    (omega (arith, c.requests-test.true)) is ∙ (c.requests.invariant szx).1

pub requests-preserved : goal.requests-preserved
requests-preserved g c szx =
    let w = c.index-waiting-i.result in
    let is = same_is (waiting_as szx) c.args.at.0 c.args.asked.now c.args.waiting.now c.requests.i w w c.is_ready.result
    false (omega (arith, c.requests-test.true)) c.index-waiting-i.is
    (c.is_ready.ensures szx) c.if-is_ready.false in (
      question_passes (waiting_as szx) c.args.at.0 c.args.asked.now c.args.waiting.now c.requests.i w
          (omega (arith, c.requests-test.true)) is ∙ (c.requests.invariant szx).0,
      left_passes (waiting_as szx) c.args.at.0 c.args.asked.now c.args.waiting.now c.requests.i w
          (omega (arith, c.requests-test.true)) is ∙ (c.requests.invariant szx).1,
    )
