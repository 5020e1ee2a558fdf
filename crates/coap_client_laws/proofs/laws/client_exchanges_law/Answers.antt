use Rattle.coap_client.specs.Law.{lower_of}
use Rattle.coap_client_laws.proofs.Fetching.StaysUnchanged.{are_unchanged}
use Rattle.coap_client_laws.proofs.Reporting.ByAnswers.{are_by_answers}
use Rattle.coap_client_laws.proofs.Sending.EndsInTime.{all_end_in_time}
use Rattle.coap_client_laws.proofs.Sending.HeardOfOpen.{hears_of_open, answers_are_heard}
use Rattle.coap_client_laws.proofs.Sending.OpenSince.{open_runs}
use Rattle.coap_client_laws.proofs.Sending.RepliesToCons.{replies_to_cons}
use Rattle.coap_client_laws.proofs.Sending.SentWhereFew.{sent_where_few_end}
use Rattle.coap_client_laws.proofs.Sending.SentWhereFew as where_few
use Rattle.coap_client_laws.proofs.laws.client_exchanges_law.Goals as goal

pub returns-clause-is_open : goal.returns-clause-is_open
returns-clause-is_open c = open_runs

pub returns-clause-ends_in_time : goal.returns-clause-ends_in_time
returns-clause-ends_in_time c server sizes setup t law =
    all_end_in_time server sizes setup t law (c.asker_law.ensures.in_time server setup (lower_of sizes t) law.exchanges)

pub returns-clause-replies_to_con : goal.returns-clause-replies_to_con
returns-clause-replies_to_con c = replies_to_cons

pub returns-clause-reports_of_a_call : goal.returns-clause-reports_of_a_call
returns-clause-reports_of_a_call c = are_by_answers

pub returns-clause-unchanged : goal.returns-clause-unchanged
returns-clause-unchanged c = are_unchanged

pub returns-clause-hears_of_open : goal.returns-clause-hears_of_open
returns-clause-hears_of_open c = hears_of_open

pub returns-clause-answers_heard : goal.returns-clause-answers_heard
returns-clause-answers_heard c server sizes setup t law =
    answers_are_heard server sizes setup t (c.asker_law.ensures.told_as server setup (lower_of sizes t) law.exchanges)

pub returns-clause-sent : goal.returns-clause-sent
returns-clause-sent c server sizes setup t law =
    sent_where_few_end server sizes setup t law (c.asker_law.ensures.sent server setup (lower_of sizes t) law.exchanges)

pub returns-clause-sent_where_answered : goal.returns-clause-sent_where_answered
returns-clause-sent_where_answered c server sizes setup t law =
    where_few.sent_where_answered sizes t (sent_where_few_end server sizes setup t law
    (c.asker_law.ensures.sent server setup (lower_of sizes t) law.exchanges))
