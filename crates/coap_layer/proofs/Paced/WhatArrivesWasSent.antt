-- What came from the other layer.
use Rattle.std.proofs.Common.{◌≡◌, ◌⊎◌, inl, inr, ℕ, ◌+◌, ◌≤◌, List, ◌∷◌, ap, sym, subst, arith}
use Rattle.coap_types.specs.Past.{Ever, Sometime, Always}
use Rattle.coap_types.proofs.Facts.Traces.{Ever_of_Sometime, Sometime_of_Ever, by_law, by_suffix, found}
use Rattle.coap_types.specs.declared.endpoint.Endpoint.{Endpoint}
use Rattle.coap_types.specs.declared.message.Kind.TheVariants.{Con, Non, Ack, Rst}
use Rattle.coap_types.specs.declared.transmission.TheConstants.{MAX_LATENCY_MS as max_latency}
use Rattle.coap_codec.specs.Message.{Message, Spells}
use Rattle.coap_layer.specs.Channel.{Hop, Far, OnNear, near_of, GaveOut, RepliesSo, SentSo, BegunAs, PlainSent}
use Rattle.coap_layer.specs.Clocks.{Clocks}
use Rattle.coap_layer.specs.Paced.{Meanwhile, ChannelLaw, ArrivesAsSent, ConsBegun, NonsSent}
use Rattle.coap_layer.specs.Rows.{Stands, LayerLaw}
use Rattle.coap_layer.specs.Trace.{Setup, Packet, Receive, Entry}
use Rattle.coap_layer.proofs.Between.WhatComesByType.{Comes, a_con, a_non, a_reply, a_stored, a_reset, comes}
use Rattle.coap_layer.proofs.Facts.Hops.{near_ever}
use Rattle.coap_layer.proofs.Numbers.OneEntryForAnId.{SendsPlain}
use Rattle.coap_layer.proofs.Out.EachGoesOut.{goes_out}
use Rattle.coap_layer.proofs.Paced.Facts.{each_hop, meanwhile_map}

-- by the near trace alone: what was given out at most MAX_LATENCY before this moment was sent by a row
gave_out : (one : Setup) (to : Endpoint) (bytes : List ℕ) (when : ℕ) (past : List Hop) → LayerLaw one (near_of past)
    → Ever (OnNear (GaveOut to bytes when)) past → Sometime (SentSo to bytes when) (near_of past)
gave_out one to bytes when past law gave =
    by_law (Stands one) (λ t b. GaveOut to bytes when b) (SentSo to bytes when)
    (λ t b l g. record { goes = goes_out one t b _ l g.out; from = g.from; till = g.till })
    (near_of past) law (Sometime_of_Ever _ (near_of past) (near_ever _ past gave))

-- whence a message comes, by its type
pub data Came (to : Endpoint) (bytes : List ℕ) (m : Message) (when : ℕ) (t : List Entry) : Type 0 where
  con_came : m.kind ≡ Con → BegunAs to bytes m.id when t → Came to bytes m when t
  non_came : m.kind ≡ Non → (at : ℕ) → Ever (SendsPlain m.id at) t → at ≤ when → when ≤ at + max_latency
      → Came to bytes m when t
  reply_came : (m.kind ≡ Ack) ⊎ (m.kind ≡ Rst) → Came to bytes m when t

begun_later : (to : Endpoint) (bytes : List ℕ) (id when : ℕ) (e : Entry) (t : List Entry) → BegunAs to bytes id when t
    → BegunAs to bytes id when (e ∷ t)
begun_later to bytes id when e t b = record {
  con = b.con;
  begun = inr b.begun;
  to_is = b.to_is;
  bytes_are = b.bytes_are;
  id_is = b.id_is;
  from = b.from;
  till = b.till;
}

came_later : (to : Endpoint) (bytes : List ℕ) (m : Message) (when : ℕ) (e : Entry) (t : List Entry)
    → Came to bytes m when t → Came to bytes m when (e ∷ t)
came_later to bytes m when e t (con_came k b) = con_came k (begun_later to bytes m.id when e t b)
came_later to bytes m when e t (non_came k at p from till) = non_came k at (inr p) from till
came_later to bytes m when e t (reply_came k) = reply_came k

record Lawful (setup : Setup) (t : List Entry) : Type 0 where
  pub law : LayerLaw setup t
  pub replies : Always RepliesSo t

came_here : (setup : Setup) (t : List Entry) (b : Entry) (to : Endpoint) (bytes : List ℕ) (m : Message) (when : ℕ)
    → Lawful setup (b ∷ t) → Spells bytes m → SentSo to bytes when t b → Came to bytes m when (b ∷ t)
came_here setup t b to bytes m when l spells s = go (comes setup t b p m l.law l.replies spells s.goes)
  where
    p : Packet
    p = record { to = to; bytes = bytes }

    go : Comes t b p m → Came to bytes m when (b ∷ t)
    go (a_con k c) =
        con_came k (record {
          con = c.con;
          begun = c.begun;
          to_is = ap (λ (x : Packet). x.to) (sym c.is);
          bytes_are = ap (λ (x : Packet). x.bytes) (sym c.is);
          id_is = c.id_is;
          from = omega (arith, c.from, s.from);
          till = omega (arith, c.till, s.till);
        })
    go (a_non k r c) = non_came k b.at (inl c) s.from s.till
    go (a_reply k r a is) = reply_came k
    go (a_stored k r is) = reply_came k
    go (a_reset k) = reply_came (inr k)

plain_here : (setup : Setup) (t : List Entry) (b : Entry) (to : Endpoint) (bytes : List ℕ) (m : Message) (when : ℕ)
    → Lawful setup (b ∷ t) → Spells bytes m → m.kind ≡ Non → SentSo to bytes when t b
    → PlainSent to bytes when b
plain_here setup t b to bytes m when l spells non s = go (comes setup t b p m l.law l.replies spells s.goes)
  where
    p : Packet
    p = record { to = to; bytes = bytes }

    go : Comes t b p m → PlainSent to bytes when b
    go (a_con k c) = absurd (cc (k, non))
    go (a_non k r c) = record { goes = r; from = s.from; till = s.till }
    go (a_reply (inl k) r a is) = absurd (cc (k, non))
    go (a_reply (inr k) r a is) = absurd (cc (k, non))
    go (a_stored (inl k) r is) = absurd (cc (k, non))
    go (a_stored (inr k) r is) = absurd (cc (k, non))
    go (a_reset k) = absurd (cc (k, non))

module _ (c : Clocks) (one other : Setup) (near far : Endpoint) (past : List Hop) (x : Entry) (bytes : List ℕ)
    (law : ChannelLaw c one other near far (Far x ∷ past)) (call : x.call ≡ Receive near bytes) where
  lawful : Lawful one (near_of past)
  lawful = record { law = law.near_law; replies = law.near_replies }

  -- what arrives was sent by a row
  pub sent_so : Meanwhile c x.at (near_of past) (λ when. Sometime (SentSo far bytes when) (near_of past))
  sent_so = meanwhile_map c x.at (near_of past) (λ when. Ever (OnNear (GaveOut far bytes when)) past)
      (λ when. Sometime (SentSo far bytes when) (near_of past))
      (λ when gave. gave_out one far bytes when past law.near_law gave) (law.fair.0 bytes call)

  module _ (m : Message) (spells : Spells bytes m) where
    pub came : Meanwhile c x.at (near_of past) (λ when. Came far bytes m when (near_of past))
    came = meanwhile_map c x.at (near_of past) (λ when. Sometime (SentSo far bytes when) (near_of past))
        (λ when. Came far bytes m when (near_of past)) by sent_so
      where
        by : (when : ℕ) → Sometime (SentSo far bytes when) (near_of past) → Came far bytes m when (near_of past)
        by when sent =
            found (λ t b. Came far bytes m when (b ∷ t)) (Came far bytes m when)
            (λ b t z. came_later far bytes m when b t z) (λ t b z. z) (near_of past)
            (by_suffix (Lawful one) (SentSo far bytes when) (λ t b. Came far bytes m when (b ∷ t))
            (λ t b l. record { law = l.law.1; replies = l.replies.1 })
            (λ t b l s. came_here one t b far bytes m when l spells s) (near_of past) lawful sent)

    pub begun_as : m.kind ≡ Con
        → Meanwhile c x.at (near_of past) (λ when. BegunAs far bytes m.id when (near_of past))
    begun_as con = meanwhile_map c x.at (near_of past) (λ when. Came far bytes m when (near_of past))
        (λ when. BegunAs far bytes m.id when (near_of past)) by came
      where
        by : (when : ℕ) → Came far bytes m when (near_of past) → BegunAs far bytes m.id when (near_of past)
        by when (con_came k b) = b
        by when (non_came k at p from till) = absurd (cc (k, con))
        by when (reply_came (inl k)) = absurd (cc (k, con))
        by when (reply_came (inr k)) = absurd (cc (k, con))

    pub plain_sent : m.kind ≡ Non
        → Meanwhile c x.at (near_of past) (λ when. Ever (PlainSent far bytes when) (near_of past))
    plain_sent non = meanwhile_map c x.at (near_of past) (λ when. Sometime (SentSo far bytes when) (near_of past))
        (λ when. Ever (PlainSent far bytes when) (near_of past)) by sent_so
      where
        by : (when : ℕ) → Sometime (SentSo far bytes when) (near_of past)
            → Ever (PlainSent far bytes when) (near_of past)
        by when sent =
            Ever_of_Sometime (λ t b. PlainSent far bytes when b) (PlainSent far bytes when) (λ t b z. inl z)
            (near_of past)
            (by_suffix (Lawful one) (SentSo far bytes when) (λ t b. PlainSent far bytes when b)
            (λ t b l. record { law = l.law.1; replies = l.replies.1 })
            (λ t b l s. plain_here one t b far bytes m when l spells non s) (near_of past) lawful sent)

module _ (c : Clocks) (one other : Setup) (near far : Endpoint) where
  at_hop : (past : List Hop) (h : Hop) (x : Entry) → ChannelLaw c one other near far (h ∷ past) → h ≡ Far x
      → ChannelLaw c one other near far (Far x ∷ past)
  at_hop past h x l is = subst (λ (y : Hop). ChannelLaw c one other near far (y ∷ past)) is l

  pub arrives_as_sent : (all : List Hop) → ChannelLaw c one other near far all → ArrivesAsSent c near far all
  arrives_as_sent all law = each_hop c one other near far _
      (λ past h l x bytes is call. sent_so c one other near far past x bytes (at_hop past h x l is) call) all law

  pub cons_begun : (all : List Hop) → ChannelLaw c one other near far all → ConsBegun c near far all
  cons_begun all law = each_hop c one other near far _
      (λ past h l x bytes m is call spells con. begun_as c one other near far past x bytes (at_hop past h x l is) call m
      spells con) all law

  pub nons_sent : (all : List Hop) → ChannelLaw c one other near far all → NonsSent c near far all
  nons_sent all law = each_hop c one other near far _
      (λ past h l x bytes m is call spells non. plain_sent c one other near far past x bytes (at_hop past h x l is) call
      m
      spells non) all law
