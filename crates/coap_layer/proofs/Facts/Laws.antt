-- What follows from the laws of a layer and of a channel, as the law functions say it.
use Rattle.coap_layer.specs.Trace.{Setup}
use Rattle.std.proofs.Common.{◌≡◌, ◌<◌, ℕ, Some, List, ◌∷◌}
use Rattle.coap_types.specs.Past.{Ever}
use Rattle.coap_types.specs.declared.endpoint.Endpoint.{Endpoint}
use Rattle.coap_types.specs.declared.message.Kind.TheVariants.{Con}
use Rattle.coap_codec.specs.Message.{Message, Spells}
use Rattle.coap_layer.specs.Ids.{Issued, upcoming}
use Rattle.coap_layer.specs.Trace.{Receive, Entry}
use Rattle.coap_layer.specs.Words.{Open, begun}
use Rattle.coap_layer.specs.Rows.{LayerLaw}
use Rattle.coap_layer.specs.Follows.{HandedUpOnce, CopiesInTime, OneOutstanding, ResponsesSpelled}
use Rattle.coap_layer.specs.Sends.{Begins, ConsSpelled, SpellsCon, EachGoesOut, TakenSince}
use Rattle.coap_layer.specs.Channel.{Hop, Far, near_of, HandedAsSpelled, AcksHeard, BegunAs, NonsSent}
use Rattle.coap_layer.specs.OneClock.{ChannelLaw}
use Rattle.coap_types.specs.declared.message.TheConstants.{MESSAGE_IDS as message_ids}
use Rattle.coap_layer.proofs.Arrivals.ResponsesAreSpelled as responses
use Rattle.coap_layer.proofs.Between.WhatComesByType as comes
use Rattle.coap_layer.proofs.Copies.CopiesInTime as copies
use Rattle.coap_layer.proofs.Arrivals.HandedAsSpelled as handed
use Rattle.coap_layer.proofs.Paced.AtOneClock as hops
use Rattle.coap_layer.proofs.Numbers.EqualIdsAreApart as ids
use Rattle.coap_layer.proofs.Numbers.OneEntryForAnId as numbered
use Rattle.coap_layer.proofs.Out.InOrder as order
use Rattle.coap_layer.proofs.Out.EachGoesOut as outs

pub handed_up_once : (setup : Setup) (t : List Entry) → LayerLaw setup t → HandedUpOnce t
handed_up_once = copies.handed_up_once

pub copies_in_time : (setup : Setup) (t : List Entry) → LayerLaw setup t → CopiesInTime t
copies_in_time = copies.copies_in_time

pub one_outstanding : (setup : Setup) (t : List Entry) → LayerLaw setup t → OneOutstanding t
one_outstanding = copies.one_outstanding

-- a Message ID has 16 bits
pub small : (word : ℕ) (t : List Issued) → upcoming word t < message_ids
small = ids.small

-- what is sent

pub begins_of : (e : Entry) (c : Open) → begun e ≡ Some c → Begins e.at e.call e.answer c
begins_of = numbered.begins_of

pub cons_spelled : (setup : Setup) (t : List Entry) → LayerLaw setup t → ConsSpelled t
cons_spelled = outs.cons_spelled

pub spelled_begun : (setup : Setup) (t : List Entry) (c : Open) → LayerLaw setup t → Ever (λ b. begun b ≡ Some c) t
    → SpellsCon c
spelled_begun = comes.spelled_begun

pub each_goes_out : (setup : Setup) (t : List Entry) → LayerLaw setup t → EachGoesOut t
each_goes_out = outs.each_goes_out

pub taken_since : TakenSince
taken_since = order.taken_since

-- what arrives

pub handed_spelled : (setup : Setup) (t : List Entry) → LayerLaw setup t → HandedAsSpelled t
handed_spelled = handed.handed_spelled

pub acks_heard : (setup : Setup) (t : List Entry) → LayerLaw setup t → AcksHeard t
acks_heard = handed.acks_heard

pub responses_spelled : (setup : Setup) (t : List Entry) → LayerLaw setup t → ResponsesSpelled t
responses_spelled = responses.responses_spelled

module _ (one other : Setup) (near far : Endpoint) where
  pub begun_as : (past : List Hop) (x : Entry) (bytes : List ℕ) (m : Message)
      → ChannelLaw one other near far (Far x ∷ past) → x.call ≡ Receive near bytes → Spells bytes m → m.kind ≡ Con
      → BegunAs far bytes m.id x.at (near_of past)
  begun_as = hops.begun_as one other near far

  pub nons_sent : (all : List Hop) → ChannelLaw one other near far all → NonsSent near far all
  nons_sent = hops.nons_sent one other near far
