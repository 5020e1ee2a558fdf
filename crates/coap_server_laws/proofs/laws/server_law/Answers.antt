use Rattle.coap_server_laws.proofs.Observing.LatestRegistration.{are_latest}
use Rattle.coap_server_laws.proofs.Exact.Exactly.{is_exact}
use Rattle.coap_server.proofs.Facts.Exact.Leads.{exchanges_kept, led_empty, led_further, led_lawful, one_state}
use Rattle.coap_server.proofs.Facts.Rest.Ending.{ticks_end}
use Rattle.coap_server_laws.proofs.Serving.Reads.{verdicts_read}
use Rattle.coap_server.proofs.Facts.Serving.Waiting.{ready_are_served, waits_as_deferred}
use Rattle.coap_server_laws.proofs.Observing.EndsObservation.{ends_observation, none_continues}
use Rattle.coap_server_laws.proofs.Observing.ObservationEnds.{ends_on_request, ends_on_notice}
use Rattle.coap_server_laws.proofs.Observing.ObservationStays.{ends_so}
use Rattle.coap_server_laws.proofs.Observing.ToldInOrder.{follows}
use Rattle.coap_server_laws.proofs.Replying.ResponsesHaveRequests.{sends_responses}
use Rattle.coap_server_laws.proofs.Serving.ServedWasHandedUp.{handed_up, blocks_come}
use Rattle.coap_server.proofs.Facts.Observing.ObserversWereMade.{are_observers}
use Rattle.coap_server_laws.proofs.Serving.ServedOnce.{served_once}
use Rattle.coap_exchange.proofs.Facts.ServerSide.{are_responses}
use Rattle.coap_server.specs.Law.{lower_of}
use Rattle.coap_server_laws.proofs.laws.server_law.Goals as goal
use Rattle.coap_layer.proofs.Facts.Laws.{handed_up_once}
use Rattle.coap_exchange.proofs.Facts.ServerSide.{layer_stands}
use Rattle.coap_server.specs.Law.{layer_of}
use Rattle.coap_server.proofs.Facts.Serving.Brought.{servers_back}
use Rattle.coap_server.proofs.Facts.Holding.Holds.{all_served, holds_changes, limits_are}
use Rattle.coap_server.proofs.Facts.Holding.Stamps.{are_stamped}
use Rattle.coap_server_laws.proofs.Holding.OneTag.{one_tag}
use Rattle.coap_server_laws.proofs.Serving.HandedUpAsOften.{counted}
use Rattle.coap_server_laws.proofs.Replying.RepliesAtOnce.{replies_at_once}
use Rattle.coap_server_laws.proofs.Answering.AttendedAtOnce.{all_attended}
use Rattle.coap_server_laws.proofs.Answering.HandedOn.{all_handed_on}
use Rattle.coap_server_laws.proofs.Answering.FirstAnswered.{first_answered}
use Rattle.coap_server_laws.proofs.Progress.GoesOn.{goes_on}
use Rattle.coap_server_laws.proofs.Rest.Resting.{comes_to_rest}
use Rattle.coap_server_laws.proofs.Replying.GivenInOrder.{gives_in_order}
use Rattle.coap_server_laws.proofs.Holding.Shown.{shows_held, notices_show}
use Rattle.coap_server_laws.proofs.Progress.TokensShort.{short_tokens}
use Rattle.coap_server_laws.proofs.Serving.MethodsServed.{all_methods, all_uploads, verdicts_ask}
use Rattle.coap_server_laws.proofs.Telling.MadeInCall.{all_made_here}
use Rattle.coap_server_laws.proofs.Telling.Told.{all_tell_sent, acks_arrive}
use Rattle.coap_server_laws.proofs.Telling.UnderRegistrations.{all_serve_pairs, are_under}

pub returns-clause-start : goal.returns-clause-start
returns-clause-start c = led_empty

pub returns-clause-step : goal.returns-clause-step
returns-clause-step c = led_further

pub returns-clause-exchanges : goal.returns-clause-exchanges
returns-clause-exchanges c = exchanges_kept

pub returns-clause-law : goal.returns-clause-law
returns-clause-law c = led_lawful

pub returns-clause-exact : goal.returns-clause-exact
returns-clause-exact c limits szx setup past = is_exact limits szx setup past

pub returns-clause-handed : goal.returns-clause-handed
returns-clause-handed c limits szx setup t law = handed_up limits szx setup t law

pub returns-clause-blocks : goal.returns-clause-blocks
returns-clause-blocks c limits szx setup t law = blocks_come limits szx setup t law

pub returns-clause-served : goal.returns-clause-served
returns-clause-served c limits szx setup t law =
    served_once limits szx t (are_responses (lower_of limits szx t) law.exchanges.rows)

pub returns-clause-gives : goal.returns-clause-gives
returns-clause-gives c limits szx setup t law = sends_responses limits szx setup t law

pub returns-clause-made : goal.returns-clause-made
returns-clause-made c limits szx setup t law = all_made_here limits szx setup t law

pub returns-clause-continues : goal.returns-clause-continues
returns-clause-continues c limits szx setup t law = none_continues limits szx setup t law

pub returns-clause-observers : goal.returns-clause-observers
returns-clause-observers c limits szx t = are_observers limits szx t

pub returns-clause-follows : goal.returns-clause-follows
returns-clause-follows c limits szx setup t law = follows limits szx setup t law

pub returns-clause-ends : goal.returns-clause-ends
returns-clause-ends c limits szx setup t law = ends_observation limits szx setup t law

pub returns-clause-deregisters : goal.returns-clause-deregisters
returns-clause-deregisters c limits szx t = ends_on_request limits szx t

pub returns-clause-gone : goal.returns-clause-gone
returns-clause-gone c limits szx setup t law = ends_on_notice limits szx t law.rows

pub returns-clause-stays : goal.returns-clause-stays
returns-clause-stays c limits szx setup t law = ends_so limits szx t law.rows

pub returns-clause-reads : goal.returns-clause-reads
returns-clause-reads c = verdicts_read

pub returns-clause-waits : goal.returns-clause-waits
returns-clause-waits c limits szx setup t law = waits_as_deferred limits szx setup t law

pub returns-clause-ready : goal.returns-clause-ready
returns-clause-ready c limits szx setup t law = ready_are_served limits szx setup t law

pub returns-clause-left : goal.returns-clause-left
returns-clause-left c limits szx setup t law = one_state limits szx setup t law

pub returns-clause-ticks : goal.returns-clause-ticks
returns-clause-ticks c limits szx setup t = ticks_end limits szx setup t

pub returns-clause-layer : goal.returns-clause-layer
returns-clause-layer c limits szx setup t law = layer_stands setup (lower_of limits szx t) law.exchanges

pub returns-clause-back : goal.returns-clause-back
returns-clause-back c limits szx setup calls t law = servers_back limits szx setup calls t law

pub returns-clause-once : goal.returns-clause-once
returns-clause-once c limits szx setup t law = handed_up_once setup (layer_of limits szx setup t)
    (layer_stands setup (lower_of limits szx t) law.exchanges)

pub returns-clause-right : goal.returns-clause-right
returns-clause-right c limits szx setup t law = all_served limits szx t law.rows

pub returns-clause-holds : goal.returns-clause-holds
returns-clause-holds c limits szx setup t law = holds_changes limits szx t law.rows

pub returns-clause-limits : goal.returns-clause-limits
returns-clause-limits c limits szx setup t law = limits_are limits szx t law.rows

pub returns-clause-stamped : goal.returns-clause-stamped
returns-clause-stamped c limits szx setup t law = are_stamped limits szx t law.rows

pub returns-clause-tags : goal.returns-clause-tags
returns-clause-tags c limits szx setup t law = one_tag limits szx t law.rows

pub returns-clause-counts : goal.returns-clause-counts
returns-clause-counts c limits szx setup t law = counted limits szx setup t law

pub returns-clause-replies : goal.returns-clause-replies
returns-clause-replies c limits szx setup t law = replies_at_once limits szx setup t law

pub returns-clause-handed_on : goal.returns-clause-handed_on
returns-clause-handed_on c limits szx setup t law = all_handed_on limits szx setup t law

pub returns-clause-attended : goal.returns-clause-attended
returns-clause-attended c limits szx setup t law = all_attended limits szx setup t law

pub returns-clause-answered : goal.returns-clause-answered
returns-clause-answered c limits szx setup t law = first_answered limits szx setup t law

pub returns-clause-goes : goal.returns-clause-goes
returns-clause-goes c limits szx setup t law = goes_on limits szx setup t law

pub returns-clause-rests : goal.returns-clause-rests
returns-clause-rests c limits szx setup t law = comes_to_rest limits szx setup t law

pub returns-clause-in_order : goal.returns-clause-in_order
returns-clause-in_order c limits szx setup t law = gives_in_order limits szx setup t law

pub returns-clause-shows : goal.returns-clause-shows
returns-clause-shows c limits szx setup t law = shows_held limits szx t law.rows

pub returns-clause-notices : goal.returns-clause-notices
returns-clause-notices c limits szx setup t law = notices_show limits szx t law.rows

pub returns-clause-tokens : goal.returns-clause-tokens
returns-clause-tokens c limits szx setup t law = short_tokens limits szx setup t law

pub returns-clause-asks : goal.returns-clause-asks
returns-clause-asks c = verdicts_ask

pub returns-clause-methods : goal.returns-clause-methods
returns-clause-methods c limits szx setup t law = all_methods limits szx t law.rows

pub returns-clause-uploads : goal.returns-clause-uploads
returns-clause-uploads c limits szx setup t law = all_uploads limits szx t law.rows

pub returns-clause-latest : goal.returns-clause-latest
returns-clause-latest c = are_latest

pub returns-clause-told : goal.returns-clause-told
returns-clause-told c = all_tell_sent

pub returns-clause-under : goal.returns-clause-under
returns-clause-under c = are_under

pub returns-clause-acks : goal.returns-clause-acks
returns-clause-acks c = acks_arrive

pub returns-clause-pairs : goal.returns-clause-pairs
returns-clause-pairs c limits szx setup t law = all_serve_pairs limits szx t
