use Rattle.coap_exchange.proofs.Leading.ClientLeads.{led_start, led_call, led_exchanged, led_law, layer_stands}
use Rattle.coap_exchange.proofs.Exact.ClientExactly.{exact}
use Rattle.coap_exchange.proofs.Exchanges.OneAtATime.{known}
use Rattle.coap_exchange.proofs.Exchanges.RefusedWhileOneRuns.{refused}
use Rattle.coap_exchange.proofs.Exchanges.TokensOnce.{counted}
use Rattle.coap_exchange.proofs.Ending.NoEarlier.{in_time}
use Rattle.coap_exchange.proofs.Ending.StillOutstanding.{still_outstanding}
use Rattle.coap_exchange.proofs.Ending.WhenDue.{when_due}
use Rattle.coap_exchange.proofs.Exchanges.FewAreKept.{few_kept}
use Rattle.coap_exchange.proofs.Telling.FromServer.{came_from}
use Rattle.coap_exchange.proofs.Telling.ResetsAreOfRequest.{rejected}
use Rattle.coap_exchange.proofs.Telling.KindsAreTold.{told_as}
use Rattle.coap_exchange.proofs.Telling.EmptyReplies.{are_replied}
use Rattle.coap_exchange.proofs.Telling.ResponsesMatch.{matched}
use Rattle.coap_exchange.proofs.Ids.ClientIds.{ids_counted}
use Rattle.coap_exchange.proofs.Ids.ClientIsFree.{id_is_free, requests_are_sent}
use Rattle.coap_exchange.specs.AskerLaw.{below_of}
use Rattle.coap_exchange.proofs.laws.asker_law.Goals as goal

pub returns-clause-start : goal.returns-clause-start
returns-clause-start c = led_start

pub returns-clause-step : goal.returns-clause-step
returns-clause-step c = led_call

pub returns-clause-steps : goal.returns-clause-steps
returns-clause-steps c = led_exchanged

pub returns-clause-law : goal.returns-clause-law
returns-clause-law c = led_law

pub returns-clause-layer : goal.returns-clause-layer
returns-clause-layer c = layer_stands

pub returns-clause-exact : goal.returns-clause-exact
returns-clause-exact c = exact

pub returns-clause-exchanges : goal.returns-clause-exchanges
returns-clause-exchanges c server setup t law = (known server setup t law.rows).0

pub returns-clause-refused : goal.returns-clause-refused
returns-clause-refused c server setup t law = refused server setup t law.rows law.left law.layer

pub returns-clause-tokens : goal.returns-clause-tokens
returns-clause-tokens c server setup t law = (counted server setup t law.rows).0

pub returns-clause-in_time : goal.returns-clause-in_time
returns-clause-in_time c server setup t law = in_time server setup t law.rows law.left law.layer

pub returns-clause-when_due : goal.returns-clause-when_due
returns-clause-when_due c server setup t law = when_due server setup t law.rows law.left law.layer

pub returns-clause-outstanding : goal.returns-clause-outstanding
returns-clause-outstanding c server setup t law = still_outstanding server setup t law

pub returns-clause-few_kept : goal.returns-clause-few_kept
returns-clause-few_kept c server setup t law = few_kept server setup t law.rows

pub returns-clause-from_server : goal.returns-clause-from_server
returns-clause-from_server c server setup t law = came_from server setup t law.rows law.left law.layer

pub returns-clause-matched : goal.returns-clause-matched
returns-clause-matched c server setup t law = matched server setup t law.rows

pub returns-clause-told_as : goal.returns-clause-told_as
returns-clause-told_as c server setup t law = told_as server setup t law.rows

pub returns-clause-replied : goal.returns-clause-replied
returns-clause-replied c server setup t law = are_replied server setup t law.rows

pub returns-clause-rejected : goal.returns-clause-rejected
returns-clause-rejected c server setup t law = rejected server setup t law.rows law.left law.layer

pub returns-clause-ids : goal.returns-clause-ids
returns-clause-ids c = ids_counted

pub returns-clause-id_free : goal.returns-clause-id_free
returns-clause-id_free c server setup t law = id_is_free server setup t law
    (c.layer_law.ensures.held setup (below_of server setup t) (layer_stands server setup t law))

pub returns-clause-sent : goal.returns-clause-sent
returns-clause-sent c server setup t law = requests_are_sent server setup
    (λ past stands. c.layer_law.ensures.held setup (below_of server setup past)
    (layer_stands server setup past stands)) t law
