use Rattle.coap_record.specs.Record.{entries_of}
use Rattle.coap_promise.proofs.Delivery.ReportsAreTaken.{all_given}
use Rattle.coap_promise.proofs.Facts.Reports.Answered.{all_answered}
use Rattle.coap_promise.proofs.Reports.Noticed.{all_noticed}
use Rattle.coap_promise.proofs.Facts.Requests.Promised.{lawful}
use Rattle.coap_promise.proofs.laws.answers_law.Goals as goal
use Rattle.coap_promise.proofs.Facts.Requests.AtAnyTime.{at_any_time}

pub returns-clause-answered : goal.returns-clause-answered
returns-clause-answered c config events turns run legal =
    all_answered config (entries_of turns) (at_any_time (lawful config events turns run legal))

pub returns-clause-given : goal.returns-clause-given
returns-clause-given c config events turns run legal = all_given config turns run.made run.client.rows

pub returns-clause-noticed : goal.returns-clause-noticed
returns-clause-noticed c config events turns run legal =
    all_noticed config (entries_of turns) (at_any_time (lawful config events turns run legal))
