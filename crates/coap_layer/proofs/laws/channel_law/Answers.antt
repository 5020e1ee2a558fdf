use Rattle.coap_layer.proofs.Arrivals.HandedAsSpelled.{handed_spelled, acks_heard}
use Rattle.coap_layer.proofs.Between.TakenWhereRoom.{cons_taken}
use Rattle.coap_layer.proofs.Between.TakenInTime.{cons_taken_within}
use Rattle.coap_layer.proofs.Between.IdsAreFree.{ids_are_free}
use Rattle.coap_layer.proofs.Between.OverWithin.{over_within}
use Rattle.coap_layer.proofs.Between.NonsAreTaken.{nons_taken, nons_taken_within}
use Rattle.coap_layer.proofs.Paced.AtOneClock.{arrives_as_sent, cons_begun, nons_sent, acks_replied, replied_once}
use Rattle.coap_layer.proofs.Paced.AtOneClock.{resets_meant}
use Rattle.coap_layer.proofs.laws.channel_law.Goals as goal

pub returns-clause-sent : goal.returns-clause-sent
returns-clause-sent c = arrives_as_sent

pub returns-clause-begun : goal.returns-clause-begun
returns-clause-begun c = cons_begun

pub returns-clause-replied : goal.returns-clause-replied
returns-clause-replied c = acks_replied

pub returns-clause-spelled : goal.returns-clause-spelled
returns-clause-spelled c = handed_spelled

pub returns-clause-heard : goal.returns-clause-heard
returns-clause-heard c = acks_heard

pub returns-clause-plain : goal.returns-clause-plain
returns-clause-plain c = nons_sent

pub returns-clause-taking : goal.returns-clause-taking
returns-clause-taking c = cons_taken

pub returns-clause-within : goal.returns-clause-within
returns-clause-within c = cons_taken_within

pub returns-clause-replied_once : goal.returns-clause-replied_once
returns-clause-replied_once c = replied_once

pub returns-clause-free : goal.returns-clause-free
returns-clause-free c = ids_are_free

pub returns-clause-ended : goal.returns-clause-ended
returns-clause-ended c = over_within

pub returns-clause-taking_nons : goal.returns-clause-taking_nons
returns-clause-taking_nons c = nons_taken

pub returns-clause-within_nons : goal.returns-clause-within_nons
returns-clause-within_nons c = nons_taken_within

pub returns-clause-resets : goal.returns-clause-resets
returns-clause-resets c = resets_meant
