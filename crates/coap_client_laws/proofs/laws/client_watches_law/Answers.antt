use Rattle.coap_client.specs.Law.{lower_of}
use Rattle.coap_client_laws.proofs.Hearing.Acked.{are_acked}
use Rattle.coap_client_laws.proofs.Hearing.NoticesHeard.{notices_are_heard}
use Rattle.coap_client_laws.proofs.Observing.AreThere.{are_there}
use Rattle.coap_client_laws.proofs.Observing.Noticed.{are_answered, are_noticed, are_shown}
use Rattle.coap_client_laws.proofs.Observing.NoneFetched.{none_fetched}
use Rattle.coap_client_laws.proofs.Observing.StaysLive.{stay_live}
use Rattle.coap_client_laws.proofs.Observing.TokensKept.{tokens_are_kept}
use Rattle.coap_client_laws.proofs.Observing.LastValue.{last_is_newest}
use Rattle.coap_client_laws.proofs.Observing.WatchedAs.{are_watched, have_tokens}
use Rattle.coap_client_laws.proofs.Sending.CancelsTaken.{cancels_are_taken}
use Rattle.coap_client_laws.proofs.Sending.RegisteredOnce.{registered_once}
use Rattle.coap_client_laws.proofs.laws.client_watches_law.Goals as goal

pub returns-clause-stays : goal.returns-clause-stays
returns-clause-stays c = stay_live

pub returns-clause-answered : goal.returns-clause-answered
returns-clause-answered c = are_answered

pub returns-clause-noticed : goal.returns-clause-noticed
returns-clause-noticed c = are_noticed

pub returns-clause-shown : goal.returns-clause-shown
returns-clause-shown c = are_shown

pub returns-clause-kept : goal.returns-clause-kept
returns-clause-kept c = tokens_are_kept

pub returns-clause-notices_heard : goal.returns-clause-notices_heard
returns-clause-notices_heard c server sizes setup t law =
    notices_are_heard server sizes setup t law (c.asker_law.ensures.told_as server setup (lower_of sizes t)
    law.exchanges)

pub returns-clause-there : goal.returns-clause-there
returns-clause-there c server sizes setup t law = are_there sizes server setup t law

pub returns-clause-watched : goal.returns-clause-watched
returns-clause-watched c = are_watched

pub returns-clause-once : goal.returns-clause-once
returns-clause-once c = registered_once

pub returns-clause-tokens : goal.returns-clause-tokens
returns-clause-tokens c = have_tokens

pub returns-clause-last : goal.returns-clause-last
returns-clause-last c = last_is_newest

pub returns-clause-none_fetched : goal.returns-clause-none_fetched
returns-clause-none_fetched c = none_fetched

pub returns-clause-cancels : goal.returns-clause-cancels
returns-clause-cancels c server sizes setup t law = cancels_are_taken sizes server setup t law

pub returns-clause-acked : goal.returns-clause-acked
returns-clause-acked c server sizes setup t law =
    are_acked server sizes setup t law (c.asker_law.ensures.replied server setup (lower_of sizes t) law.exchanges)
