use Rattle.coap_layer.proofs.Machine.Forgetting.{led_step}
use Rattle.coap_layer.proofs.Machine.RowsAreSteps.{exact}
use Rattle.coap_layer.proofs.Copies.CopiesInTime.{handed_up_once, copies_in_time, ids_apart, one_outstanding}
use Rattle.coap_layer.proofs.Facts.Calls.{led_steps}
use Rattle.coap_layer.proofs.Arrivals.EndsOfOutstanding.{ends_outstanding}
use Rattle.coap_layer.proofs.Arrivals.FewAreRemembered.{few}
use Rattle.coap_layer.proofs.Numbers.IdsAreSmall.{ids_small}
use Rattle.coap_layer.proofs.Arrivals.ResponsesAreSpelled.{responses_spelled}
use Rattle.coap_layer.proofs.Arrivals.AcksAreTaken.{all_take_acks}
use Rattle.coap_layer.proofs.Machine.WhatIsIssued.{numbers_law}
use Rattle.coap_layer.proofs.Numbers.HeldIsMany.{held_is_many}
use Rattle.coap_layer.specs.Words.{numbers}
use Rattle.coap_layer.proofs.Copies.OverStays.{over}
use Rattle.coap_layer.proofs.Copies.RestedSince.{rested_since}
use Rattle.coap_layer.proofs.laws.layer_law.Goals as goal

pub returns-clause-step : goal.returns-clause-step
returns-clause-step c = led_step

pub returns-clause-exact : goal.returns-clause-exact
returns-clause-exact c = exact

pub returns-clause-once : goal.returns-clause-once
returns-clause-once c = handed_up_once

pub returns-clause-copies : goal.returns-clause-copies
returns-clause-copies c = copies_in_time

pub returns-clause-rested : goal.returns-clause-rested
returns-clause-rested c = rested_since

pub returns-clause-ids : goal.returns-clause-ids
returns-clause-ids c = ids_apart

pub returns-clause-one : goal.returns-clause-one
returns-clause-one c = one_outstanding

pub returns-clause-steps : goal.returns-clause-steps
returns-clause-steps c = led_steps

pub returns-clause-ends : goal.returns-clause-ends
returns-clause-ends c = ends_outstanding

pub returns-clause-few : goal.returns-clause-few
returns-clause-few c = few

pub returns-clause-small : goal.returns-clause-small
returns-clause-small c = ids_small

pub returns-clause-responses : goal.returns-clause-responses
returns-clause-responses c = responses_spelled

pub returns-clause-acks : goal.returns-clause-acks
returns-clause-acks c = all_take_acks

pub returns-clause-held : goal.returns-clause-held
returns-clause-held c word t law = held_is_many word.word (numbers t) (numbers_law word t law)

pub returns-clause-over : goal.returns-clause-over
returns-clause-over c word t law con = over word t con law
