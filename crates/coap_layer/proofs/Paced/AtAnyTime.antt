-- What came from the other layer, at whatever time.
use Rattle.std.proofs.Common.{◌≡◌, ◌⊎◌, inl, inr, ℕ, List, [], ◌∷◌, ap, sym, subst}
use Rattle.coap_types.specs.Past.{Ever, Sometime, Always}
use Rattle.coap_types.proofs.Facts.Traces.{Ever_map, Ever_of_Sometime, Sometime_of_Ever, by_law, by_suffix, found}
use Rattle.coap_types.specs.declared.endpoint.Endpoint.{Endpoint}
use Rattle.coap_types.specs.declared.message.Kind.TheVariants.{Con, Non, Ack, Rst}
use Rattle.coap_codec.specs.Message.{Message, Spells}
use Rattle.coap_layer.specs.AtAnyTime.{WasOut, IsFair, FairLaw, BegunSo, ConsBegun, NonsSent}
use Rattle.coap_layer.specs.Channel.{Hop, Near, Far, OnNear, OnFar, near_of, far_of, GaveOut, RepliesSo}
use Rattle.coap_layer.specs.Clocks.{Clocks}
use Rattle.coap_layer.specs.Paced as paced
use Rattle.coap_layer.specs.Rows.{Stands, LayerLaw}
use Rattle.coap_layer.specs.Sends.{PlainOut, GoesOut}
use Rattle.coap_layer.specs.Trace.{Setup, Packet, Receive, Entry}
use Rattle.coap_layer.proofs.Between.WhatComesByType.{Comes, a_con, a_non, a_reply, a_stored, a_reset, comes}
use Rattle.coap_layer.proofs.Facts.Hops.{near_ever}
use Rattle.coap_layer.proofs.Out.EachGoesOut.{goes_out}

-- what comes in time, by two clocks, comes

on_far : (to : Endpoint) (bytes : List ℕ) (when : ℕ) (h : Hop) → OnFar (GaveOut to bytes when) h
    → OnFar (WasOut to bytes) h
on_far to bytes when (Near e) k = absurd k
on_far to bytes when (Far e) k = k.out

on_near : (to : Endpoint) (bytes : List ℕ) (when : ℕ) (h : Hop) → OnNear (GaveOut to bytes when) h
    → OnNear (WasOut to bytes) h
on_near to bytes when (Near e) k = k.out
on_near to bytes when (Far e) k = absurd k

fair_so : (c : Clocks) (near far : Endpoint) (hs : List Hop) → Always (paced.IsFair c near far) hs
    → Always (IsFair near far) hs
fair_so c near far [] h = tt
fair_so c near far (Near e ∷ hs) h = (
  (λ bytes is. let m = h.0 bytes is in
      Ever_map (OnFar (GaveOut near bytes (c.far m.instant))) (OnFar (WasOut near bytes))
      (on_far near bytes (c.far m.instant)) hs m.so),
  fair_so c near far hs h.1,
)
fair_so c near far (Far e ∷ hs) h = (
  (λ bytes is. let m = h.0 bytes is in
      Ever_map (OnNear (GaveOut far bytes (c.near m.instant))) (OnNear (WasOut far bytes))
      (on_near far bytes (c.near m.instant)) hs m.so),
  fair_so c near far hs h.1,
)

pub of_channel : (c : Clocks) (one other : Setup) (near far : Endpoint) (all : List Hop)
    → paced.ChannelLaw c one other near far all → FairLaw one other near far all
of_channel c one other near far all law = record {
  near_law = law.near_law;
  far_law = law.far_law;
  near_replies = law.near_replies;
  far_replies = law.far_replies;
  fair = fair_so c near far all law.fair;
}

-- the law holds of each past
module _ (one other : Setup) (near far : Endpoint) where
  pub earlier : (past : List Hop) (h : Hop) → FairLaw one other near far (h ∷ past) → FairLaw one other near far past
  earlier past (Near e) law = record {
    near_law = law.near_law.1;
    far_law = law.far_law;
    near_replies = law.near_replies.1;
    far_replies = law.far_replies;
    fair = law.fair.1;
  }
  earlier past (Far e) law = record {
    near_law = law.near_law;
    far_law = law.far_law.1;
    near_replies = law.near_replies;
    far_replies = law.far_replies.1;
    fair = law.fair.1;
  }

  each_hop : (C : List Hop → Hop → Type 0) → ((past : List Hop) (h : Hop) → FairLaw one other near far (h ∷ past)
      → C past h)
      → (all : List Hop) → FairLaw one other near far all → Always C all
  each_hop C f [] law = tt
  each_hop C f (h ∷ past) law = (f past h law, each_hop C f past (earlier past h law))

-- whence a message comes, by its type
data Came (to : Endpoint) (bytes : List ℕ) (m : Message) (t : List Entry) : Type 0 where
  con_came : m.kind ≡ Con → BegunSo to bytes m.id t → Came to bytes m t
  non_came : m.kind ≡ Non → Ever (λ b. PlainOut b (record { to = to; bytes = bytes })) t → Came to bytes m t
  reply_came : (m.kind ≡ Ack) ⊎ (m.kind ≡ Rst) → Came to bytes m t

came_later : (to : Endpoint) (bytes : List ℕ) (m : Message) (e : Entry) (t : List Entry) → Came to bytes m t
    → Came to bytes m (e ∷ t)
came_later to bytes m e t (con_came k b) = con_came k (record {
  con = b.con;
  begun = inr b.begun;
  to_is = b.to_is;
  bytes_are = b.bytes_are;
  id_is = b.id_is;
})
came_later to bytes m e t (non_came k p) = non_came k (inr p)
came_later to bytes m e t (reply_came k) = reply_came k

record Lawful (setup : Setup) (t : List Entry) : Type 0 where
  pub law : LayerLaw setup t
  pub replies : Always RepliesSo t

module _ (setup : Setup) (to : Endpoint) (bytes : List ℕ) (m : Message) (spells : Spells bytes m) where
  abbrev p : Packet
  p = record { to = to; bytes = bytes }

  abbrev Sent : List Entry → Entry → Type 0
  Sent t b = GoesOut t b p

  here : (t : List Entry) (b : Entry) → Lawful setup (b ∷ t) → Sent t b → Came to bytes m (b ∷ t)
  here t b l s = go (comes setup t b p m l.law l.replies spells s)
    where
      go : Comes t b p m → Came to bytes m (b ∷ t)
      go (a_con k c) =
          con_came k (record {
            con = c.con;
            begun = c.begun;
            to_is = ap (λ (x : Packet). x.to) (sym c.is);
            bytes_are = ap (λ (x : Packet). x.bytes) (sym c.is);
            id_is = c.id_is;
          })
      go (a_non k r c) = non_came k (inl r)
      go (a_reply k r a is) = reply_came k
      go (a_stored k r is) = reply_came k
      go (a_reset k) = reply_came (inr k)

  came_in : (t : List Entry) → Lawful setup t → Sometime Sent t → Came to bytes m t
  came_in t l sent =
      found (λ q b. Came to bytes m (b ∷ q)) (Came to bytes m) (λ b q z. came_later to bytes m b q z) (λ q b z. z) t
      (by_suffix (Lawful setup) Sent (λ q b. Came to bytes m (b ∷ q))
      (λ q b z. record { law = z.law.1; replies = z.replies.1 }) (λ q b z s. here q b z s) t l sent)

module _ (one other : Setup) (near far : Endpoint) where
  came : (past : List Hop) (x : Entry) (bytes : List ℕ) (m : Message) → FairLaw one other near far (Far x ∷ past)
      → x.call ≡ Receive near bytes → Spells bytes m → Came far bytes m (near_of past)
  came past x bytes m law call spells =
      came_in one far bytes m spells (near_of past) (record { law = law.near_law; replies = law.near_replies })
      (by_law (Stands one) (λ t b. WasOut far bytes b) (Sent one far bytes m spells)
      (λ t b l g. goes_out one t b _ l g) (near_of past) law.near_law
      (Sometime_of_Ever _ (near_of past) (near_ever _ past (law.fair.0 bytes call))))

  pub begun_so : (past : List Hop) (x : Entry) (bytes : List ℕ) (m : Message)
      → FairLaw one other near far (Far x ∷ past)
      → x.call ≡ Receive near bytes → Spells bytes m → m.kind ≡ Con → BegunSo far bytes m.id (near_of past)
  begun_so past x bytes m law call spells con = by (came past x bytes m law call spells)
    where
      by : Came far bytes m (near_of past) → BegunSo far bytes m.id (near_of past)
      by (con_came k b) = b
      by (non_came k p) = absurd (cc (k, con))
      by (reply_came (inl k)) = absurd (cc (k, con))
      by (reply_came (inr k)) = absurd (cc (k, con))

  pub plain_sent : (past : List Hop) (x : Entry) (bytes : List ℕ) (m : Message)
      → FairLaw one other near far (Far x ∷ past)
      → x.call ≡ Receive near bytes → Spells bytes m → m.kind ≡ Non
      → Ever (λ b. PlainOut b (record { to = far; bytes = bytes })) (near_of past)
  plain_sent past x bytes m law call spells non = by (came past x bytes m law call spells)
    where
      by : Came far bytes m (near_of past) → Ever (λ b. PlainOut b (record { to = far; bytes = bytes })) (near_of past)
      by (con_came k b) = absurd (cc (k, non))
      by (non_came k p) = p
      by (reply_came (inl k)) = absurd (cc (k, non))
      by (reply_came (inr k)) = absurd (cc (k, non))

  at_hop : (past : List Hop) (h : Hop) (x : Entry) → FairLaw one other near far (h ∷ past) → h ≡ Far x
      → FairLaw one other near far (Far x ∷ past)
  at_hop past h x l is = subst (λ (y : Hop). FairLaw one other near far (y ∷ past)) is l

  pub cons_begun : (all : List Hop) → FairLaw one other near far all → ConsBegun near far all
  cons_begun all law = each_hop one other near far _
      (λ past h l x bytes m is call spells con. begun_so past x bytes m (at_hop past h x l is) call spells con) all law

  pub nons_sent : (all : List Hop) → FairLaw one other near far all → NonsSent near far all
  nons_sent all law = each_hop one other near far _
      (λ past h l x bytes m is call spells non. plain_sent past x bytes m (at_hop past h x l is) call spells non) all
      law
