-- What follows from the law of two layers with a clock each, as the law functions say it.
use Rattle.std.proofs.Common.{◌≡◌, ◌≤◌, ℕ, ◌+◌, Some, List, ◌∷◌}
use Rattle.coap_types.specs.Past.{Ever}
use Rattle.coap_types.specs.declared.endpoint.Endpoint.{Endpoint}
use Rattle.coap_types.specs.declared.message.Kind.TheVariants.{Con}
use Rattle.coap_types.specs.declared.transmission.TheConstants.{EXCHANGE_LIFETIME_MS as exchange_lifetime}
use Rattle.coap_codec.specs.Message.{Message, Spells}
use Rattle.coap_layer.specs.Channel.{Hop, Far, near_of, BegunAs}
use Rattle.coap_layer.specs.Clocks.{Clocks, turned, one_clock, max_gain, KeepPace}
use Rattle.coap_layer.specs.OneClock as single
use Rattle.coap_layer.specs.Paced.{Meanwhile, CanArrive, ChannelLaw, ArrivesAsSent, NonsSent, HandedOnce, OnlyThatCon}
use Rattle.coap_layer.specs.Paced.{ConsApart}
use Rattle.coap_layer.specs.Paced.{AcksReplied, AcksTaken, AcksLately, AcksBehind}
use Rattle.coap_layer.specs.Rested.{RestedSince}
use Rattle.coap_layer.specs.Rows.{LayerLaw}
use Rattle.coap_layer.specs.Trace.{Setup, Receive, Entry}
use Rattle.coap_layer.specs.Words.{clock, Open, begun}
use Rattle.coap_layer.proofs.Copies.RestedSince as rested
use Rattle.coap_layer.proofs.Paced.AcksAreReplies as acks
use Rattle.coap_layer.proofs.Paced.AtOneClock as once
use Rattle.coap_layer.proofs.Paced.Facts as facts
use Rattle.coap_layer.proofs.Paced.Gaps as gaps
use Rattle.coap_layer.proofs.Paced.GoneIsNotBehind as gone
use Rattle.coap_layer.proofs.Paced.TakenOnce as takings
use Rattle.coap_layer.proofs.Paced.WhatArrivesWasSent as hops

pub far_gap : (c : Clocks) → KeepPace c → (i j n : ℕ) → n ≤ exchange_lifetime → c.near j ≤ c.near i + n
    → c.far j ≤ c.far i + n + max_gain
far_gap = gaps.far_gap

pub near_gap : (c : Clocks) → KeepPace c → (i j n : ℕ) → n ≤ exchange_lifetime → c.far j ≤ c.far i + n
    → c.near j ≤ c.near i + n + max_gain
near_gap = gaps.near_gap

pub arrives_before : (c : Clocks) → KeepPace c → (first at then i : ℕ) → CanArrive c first then → at ≤ then → c.far i
    ≡ at
    → first ≤ c.near i → CanArrive c first at
arrives_before = takings.arrives_before

-- what was begun, was so no later than the clock
pub begun_by_clock : (setup : Setup) (con : Open) (t : List Entry) → LayerLaw setup t → Ever (λ b. begun b ≡ Some con) t
    → con.first ≤ clock t
begun_by_clock = gone.begun_by_clock

pub rested_since : (setup : Setup) (t : List Entry) → LayerLaw setup t → RestedSince t
rested_since = rested.rested_since

pub pace_turned : (c : Clocks) → KeepPace c → KeepPace (turned c)
pace_turned = gaps.pace_turned

-- by one clock

pub at_once : (at : ℕ) (past : List Entry) (P : ℕ → Type 0) → Meanwhile one_clock at past P → P at
at_once = facts.at_once

pub once_earlier : (here other : Setup) (near far : Endpoint) (past : List Hop) (h : Hop)
    → single.ChannelLaw here other near far (h ∷ past) → single.ChannelLaw here other near far past
once_earlier = facts.earlier one_clock

-- two clocks that show the same are one
pub by_one : (c : Clocks) → ((i : ℕ) → c.near i ≡ c.far i) → (here other : Setup) (near far : Endpoint) (all : List Hop)
    → ChannelLaw c here other near far all → single.ChannelLaw here other near far all
by_one = once.by_one

module _ (c : Clocks) (one other : Setup) (near far : Endpoint) where
  pub earlier : (past : List Hop) (h : Hop) → ChannelLaw c one other near far (h ∷ past)
      → ChannelLaw c one other near far past
  earlier = facts.earlier c one other near far

  pub begun_as : (past : List Hop) (x : Entry) (bytes : List ℕ) → ChannelLaw c one other near far (Far x ∷ past)
      → x.call ≡ Receive near bytes → (m : Message) → Spells bytes m → m.kind ≡ Con
      → Meanwhile c x.at (near_of past) (λ when. BegunAs far bytes m.id when (near_of past))
  begun_as = hops.begun_as c one other near far

  pub arrives_as_sent : (all : List Hop) → ChannelLaw c one other near far all → ArrivesAsSent c near far all
  arrives_as_sent = hops.arrives_as_sent c one other near far

  pub nons_sent : (all : List Hop) → ChannelLaw c one other near far all → NonsSent c near far all
  nons_sent = hops.nons_sent c one other near far

  pub handed_once : (all : List Hop) → ChannelLaw c one other near far all → HandedOnce c near all
  handed_once = takings.handed_once c one other near far

  pub only_that_con : (all : List Hop) → ChannelLaw c one other near far all → OnlyThatCon c near far all
  only_that_con = takings.only_that_con c one other near far

  pub cons_apart : (all : List Hop) → ChannelLaw c one other near far all → ConsApart c near all
  cons_apart = gone.cons_apart c one other near far

  pub acks_replied : (all : List Hop) → ChannelLaw c one other near far all → AcksReplied c near far all
  acks_replied = acks.acks_replied c one other near far

  pub acks_lately : (all : List Hop) → ChannelLaw c one other near far all → AcksLately c near far all
  acks_lately = acks.acks_lately c one other near far

  pub acks_behind : (all : List Hop) → ChannelLaw c one other near far all → AcksBehind c near far all
  acks_behind = acks.acks_behind c one other near far

  pub acks_taken : (all : List Hop) → ChannelLaw c one other near far all → AcksTaken c near far all
  acks_taken = acks.acks_taken c one other near far
