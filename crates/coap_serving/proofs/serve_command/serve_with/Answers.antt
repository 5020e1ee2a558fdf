use Rattle.std.proofs.Common.{ap}
use Rattle.coap_resource.specs.Entries.{content_of}
use Rattle.coap_server.specs.Object.Shown.{state_of}
use Rattle.coap_serving.proofs.ServedCalls.{served_from}
use Rattle.coap_serving.proofs.serve_command.serve_with.Goals as goal

pub returns-clause-serves : goal.returns-clause-serves
returns-clause-serves g c =
    served_from _ _ _ _ _ _ _ _ _ c.args.count c.args.word _ _ _ _ _ _ _ _
    (ap (λ t. state_of content_of t.end) c.new-server.ensures)
    c.serve_over-ended.ensures.serves
