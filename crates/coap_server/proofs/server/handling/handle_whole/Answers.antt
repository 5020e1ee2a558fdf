use Rattle.std.proofs.Common.{rules}
use Rattle.coap_resource.specs.Serves.{question_of}
use Rattle.coap_server.specs.Object.Shown.{seen}
use Rattle.coap_server.proofs.Calls.FeedIsACall.{on_ok}
use Rattle.coap_server.proofs.Calls.RequestIsHandled.{at_once, behind, waits}
use Rattle.coap_server.proofs.server.handling.handle_whole.Goals as goal

pub returns-in_default-clause-handled : goal.returns-in_default-clause-handled
returns-in_default-clause-handled g c =
    on_ok c.serve_now.result (λ h. at_once (seen g.S.Store.content c.args.parts.now) c.args.asked.now
    (question_of c.args.asking.now) _ (search rules) h) c.serve_now.ensures.served

pub returns-then-branch-clause-handled : goal.returns-then-branch-clause-handled
returns-then-branch-clause-handled g c =
    waits (seen g.S.Store.content c.args.parts.now) c.args.asked.now (question_of c.args.asking.now) _ c.in-Some.delay
    (search rules) (search rules) (search rules)

pub returns-clause-handled : goal.returns-clause-handled
returns-clause-handled g c =
    on_ok c.serve_now-2.result
    (λ h. behind (seen g.S.Store.content c.args.parts.now) c.args.asked.now (question_of c.args.asking.now)
    (seen g.S.Store.content c.defer.new.parts) _ c.in-Some.delay (search rules) (search rules) (search rules) h)
    c.serve_now-2.ensures.served
