use Rattle.coap_answers.specs.Ends.{server_limits}
use Rattle.coap_answers.proofs.SentTexts.{carried, if_reply}
use Rattle.coap_answers.proofs.answering.answer.Goals as goal

pub returns-clause-status : goal.returns-clause-status
returns-clause-status g c =
    if_reply c.held_reply-ended.result (carried _ _ _ _ _ _ _ _ _ _)
    (c.held_reply-ended.ensures (server_limits c.default.result) c.new.result c.fresh_server-server.ensures)
