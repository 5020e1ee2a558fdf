use Rattle.coap_promise.proofs.Facts.Age.Promised.{fresh_in_pace}
use Rattle.coap_promise.proofs.Facts.Promised.{never_faults}
use Rattle.coap_smooth.proofs.Facts.Reported.EightCalls.{eight_reported}
use Rattle.coap_promise.proofs.Facts.Promised.{agrees_by, exchanges_bounded_by}
use Rattle.coap_record.specs.Record.{entries_of}
use Rattle.coap_smooth.specs.SmoothAnswers.{AllAnswer, EndByAnswers}
use Rattle.coap_smooth.specs.Young.{AreYoung}
use Rattle.coap_world.proofs.laws.agreement.Goals as goal

pub returns-clause-agrees : goal.returns-clause-agrees
returns-clause-agrees c = agrees_by

pub returns-clause-fresh : goal.returns-clause-fresh
returns-clause-fresh c k config events turns run legal = fresh_in_pace k config events turns run legal

pub returns-clause-bounded : goal.returns-clause-bounded
returns-clause-bounded c = exchanges_bounded_by

pub returns-clause-no_fault : goal.returns-clause-no_fault
returns-clause-no_fault c = never_faults

-- each exchange is young, so each ends by an answer, so each request is sent, so calls come to what they should
pub returns-clause-smooth : goal.returns-clause-smooth
returns-clause-smooth c config events turns run legal smooth told none =
    let young : AreYoung config turns = c.open_law.ensures.young config events turns run legal smooth told none in
    let ends : EndByAnswers config (entries_of turns) =
    c.open_law.ensures.by_answers config events turns run legal smooth none young in
    let all : AllAnswer config turns = record {
      none = none;
      by_answers = ends;
      all_sent = c.sent_law.ensures.all config events turns run legal smooth none ends;
    } in
    record {
      young = young;
      reported = c.reported_law.ensures.reported config events turns run legal smooth young all;
      by_answers = ends;
      gets = c.answered_law.ensures.gets config events turns run legal all;
      changes = c.answered_law.ensures.changes config events turns run legal all;
    }

pub returns-clause-eight : goal.returns-clause-eight
returns-clause-eight c config events turns run legal none smooth told unobserved =
    eight_reported config none turns
    (returns-clause-smooth c config events turns run legal smooth told unobserved).reported

pub returns-clause-current : goal.returns-clause-current
returns-clause-current c = c.watch_law.ensures.current
