use Rattle.coap_exchange.proofs.Leading.ServerLeads.{led_start, led_call, led_exchanged, led_law, layer_stands}
use Rattle.coap_exchange.proofs.Exact.ServerExactly.{exact}
use Rattle.coap_exchange.proofs.Responding.OneResponse.{counted}
use Rattle.coap_exchange.proofs.Responding.RequestsCame.{came_in}
use Rattle.coap_exchange.proofs.EndsSaid.SaidOnce.{ends_once}
use Rattle.coap_exchange.proofs.EndsSaid.SaidWhereItEnds.{told}
use Rattle.coap_exchange.proofs.Deferring.LongEnough.{long_enough, ready_when_due}
use Rattle.coap_exchange.proofs.Deferring.EarliestFirst.{earliest}
use Rattle.coap_exchange.proofs.EndsSaid.HandsOrEnds.{hands_or_ends}
use Rattle.coap_exchange.proofs.EndsSaid.AreOutstanding.{waits}
use Rattle.coap_exchange.proofs.EndsSaid.Unmatched.{unmatched_told}
use Rattle.coap_exchange.proofs.Responding.EmptyReplies.{are_replied}
use Rattle.coap_exchange.proofs.Ids.ServerIds.{ids_counted}
use Rattle.coap_exchange.proofs.Ids.ServerIsFree.{id_is_free}
use Rattle.coap_exchange.specs.AnswererLaw.{below_of}
use Rattle.coap_exchange.proofs.Responding.GoesBack.{ready_alone, sends_so}
use Rattle.coap_exchange.proofs.EndsSaid.OneForAPeer.{one_for_a_peer}
use Rattle.coap_exchange.proofs.laws.answerer_law.Goals as goal

pub returns-clause-start : goal.returns-clause-start
returns-clause-start c = led_start

pub returns-clause-step : goal.returns-clause-step
returns-clause-step c = led_call

pub returns-clause-steps : goal.returns-clause-steps
returns-clause-steps c = led_exchanged

pub returns-clause-law : goal.returns-clause-law
returns-clause-law c = led_law

pub returns-clause-layer : goal.returns-clause-layer
returns-clause-layer c = layer_stands

pub returns-clause-exact : goal.returns-clause-exact
returns-clause-exact c = exact

pub returns-clause-responses : goal.returns-clause-responses
returns-clause-responses c setup t law = (counted t law.rows).0

pub returns-clause-requests : goal.returns-clause-requests
returns-clause-requests c setup t law = came_in setup t law.rows law.left law.layer

pub returns-clause-ends_none : goal.returns-clause-ends_none
returns-clause-ends_none c setup t law = hands_or_ends t law.rows

pub returns-clause-ends : goal.returns-clause-ends
returns-clause-ends c setup t law = ends_once t

pub returns-clause-told : goal.returns-clause-told
returns-clause-told c = told

pub returns-clause-waits : goal.returns-clause-waits
returns-clause-waits c = waits

pub returns-clause-long_enough : goal.returns-clause-long_enough
returns-clause-long_enough c setup t law = long_enough t law.rows

pub returns-clause-when_due : goal.returns-clause-when_due
returns-clause-when_due c setup t law = ready_when_due t law.rows

pub returns-clause-earliest : goal.returns-clause-earliest
returns-clause-earliest c setup t law = earliest t law.rows

pub returns-clause-back : goal.returns-clause-back
returns-clause-back c setup t law = (sends_so setup t law.rows law.left law.layer).0

pub returns-clause-replied : goal.returns-clause-replied
returns-clause-replied c setup t law = are_replied t law.rows

pub returns-clause-alone : goal.returns-clause-alone
returns-clause-alone c setup t law = (sends_so setup t law.rows law.left law.layer).1

pub returns-clause-ready_alone : goal.returns-clause-ready_alone
returns-clause-ready_alone c setup t law = ready_alone setup t law.rows law.left law.layer

pub returns-clause-unmatched : goal.returns-clause-unmatched
returns-clause-unmatched c setup t law = unmatched_told t

pub returns-clause-few : goal.returns-clause-few
returns-clause-few c setup t law = (counted t law.rows).1.few

pub returns-clause-ids : goal.returns-clause-ids
returns-clause-ids c setup t law = ids_counted setup t law

pub returns-clause-id_free : goal.returns-clause-id_free
returns-clause-id_free c setup t law = id_is_free setup t law
    (c.layer_law.ensures.held setup (below_of setup t) (layer_stands setup t law))

pub returns-clause-one : goal.returns-clause-one
returns-clause-one c = one_for_a_peer
