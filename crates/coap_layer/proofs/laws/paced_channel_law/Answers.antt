use Rattle.coap_layer.proofs.Paced.AcksAreReplies.{acks_replied, acks_taken, acks_lately, acks_behind}
use Rattle.coap_layer.proofs.Paced.GoneIsNotBehind.{cons_apart}
use Rattle.coap_layer.proofs.Paced.RepliedOnce.{replied_once}
use Rattle.coap_layer.proofs.Paced.ResetsAreReplies.{resets_meant}
use Rattle.coap_layer.proofs.Paced.TakenOnce.{only_that_con, taken_once, handed_once}
use Rattle.coap_layer.proofs.Paced.WhatArrivesWasSent.{arrives_as_sent, cons_begun, nons_sent}
use Rattle.coap_layer.proofs.laws.paced_channel_law.Goals as goal

pub returns-clause-sent : goal.returns-clause-sent
returns-clause-sent c = arrives_as_sent

pub returns-clause-begun : goal.returns-clause-begun
returns-clause-begun c = cons_begun

pub returns-clause-plain : goal.returns-clause-plain
returns-clause-plain c = nons_sent

pub returns-clause-only : goal.returns-clause-only
returns-clause-only c = only_that_con

pub returns-clause-once : goal.returns-clause-once
returns-clause-once c = taken_once

pub returns-clause-handed : goal.returns-clause-handed
returns-clause-handed c = handed_once

pub returns-clause-replied_once : goal.returns-clause-replied_once
returns-clause-replied_once c = replied_once

pub returns-clause-apart : goal.returns-clause-apart
returns-clause-apart c = cons_apart

pub returns-clause-replied : goal.returns-clause-replied
returns-clause-replied c = acks_replied

pub returns-clause-lately : goal.returns-clause-lately
returns-clause-lately c = acks_lately

pub returns-clause-behind : goal.returns-clause-behind
returns-clause-behind c = acks_behind

pub returns-clause-taken : goal.returns-clause-taken
returns-clause-taken c = acks_taken

pub returns-clause-resets : goal.returns-clause-resets
returns-clause-resets c = resets_meant
