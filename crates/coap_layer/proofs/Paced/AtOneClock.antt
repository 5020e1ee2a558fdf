-- What two layers do together that have one clock.
use Rattle.std.proofs.Common.{◌-◌, ◌≡◌, inl, inr, ℕ, ◌+◌, ◌≤◌, Some, None, List, [], ◌∷◌, refl, ap, sym, subst, ◌∙◌}
use Rattle.std.proofs.Common.{arith}
use Rattle.coap_types.specs.Past.{Ever, Sometime, Since, Always}
use Rattle.coap_types.proofs.Facts.Traces.{Ever_map, Sometime_map}
use Rattle.coap_types.specs.declared.endpoint.Endpoint.{Endpoint}
use Rattle.coap_types.specs.declared.message.Kind.TheVariants.{Con, Non}
use Rattle.coap_types.specs.declared.transmission.TheConstants.{ID_REUSE_AFTER_MS as id_reuse_after}
use Rattle.coap_types.specs.declared.transmission.TheConstants.{LAST_ARRIVAL_MS as last_arrival}
use Rattle.coap_codec.specs.Message.{Message, Spells}
use Rattle.coap_layer.specs.Channel.{Hop, Near, Far, near_of, far_of, OnFarThen, SentSo, ArrivesAsSent, BegunAs}
use Rattle.coap_layer.specs.Channel.{ConsBegun}
use Rattle.coap_layer.specs.Channel.{PlainSent, NonsSent, Takes, RepliesTo, AcksReplied}
use Rattle.coap_layer.specs.Clocks.{Clocks, turned, one_clock, max_gain, KeepsPace, KeepPace}
use Rattle.coap_layer.specs.Machine.Calls.{IsBegun}
use Rattle.coap_layer.specs.OneClock.{ChannelLaw}
use Rattle.coap_layer.specs.Paced as paced
use Rattle.coap_layer.specs.Paced.{Meanwhile, IsFair}
use Rattle.coap_layer.specs.Rows.{LayerLaw}
use Rattle.coap_layer.specs.Taking.{RepliedOnce, ResetsMeant}
use Rattle.coap_layer.specs.Trace.{Setup, Receive, Entry}
use Rattle.coap_layer.specs.Words.{Incoming, clock, handed, Open, begun}
use Rattle.coap_layer.proofs.Paced.AcksAreReplies as acks
use Rattle.coap_layer.proofs.Paced.Facts as facts
use Rattle.coap_layer.proofs.Paced.Facts.{at_once}
use Rattle.coap_layer.proofs.Paced.RepliedOnce as replied
use Rattle.coap_layer.proofs.Paced.ResetsAreReplies as resets
use Rattle.coap_layer.proofs.Paced.TakenOnce as takings
use Rattle.coap_layer.proofs.Paced.WhatArrivesWasSent as hops

-- this very CON is taken, and replied to, in the words of one clock

takes_now : (near : Endpoint) (con : Open) (e : Entry) → paced.Takes one_clock near con e → Takes near con e
takes_now near con e t =
    let s : t.then.instant ≡ e.at = t.then.shown in
    let f : con.first ≤ t.then.instant = t.then.from in
    let l : t.then.instant ≤ con.first + last_arrival = t.then.till in
    record { call = t.call; up = t.up; from = omega (arith, s, f); till = omega (arith, s, l) }

takes_then : (near : Endpoint) (con : Open) (e : Entry) → Takes near con e → paced.Takes one_clock near con e
takes_then near con e t = record {
  call = t.call;
  up = t.up;
  then = record { instant = e.at; shown = refl; from = t.from; till = t.till };
}

since_map : (B C K : Entry → Type 0) → ((e : Entry) → B e → C e) → (t : List Entry) → Since B K t → Since C K t
since_map B C K f [] h = h
since_map B C K f (e ∷ past) (inl h) = inl (f e h)
since_map B C K f (e ∷ past) (inr h) = inr (h.0, since_map B C K f past h.1)

module _ (near : Endpoint) (con : Open) (bytes : List ℕ) where
  replies_now : (past : List Hop) (h : Hop) → OnFarThen (paced.RepliesTo one_clock near con bytes) past h
      → OnFarThen (RepliesTo near con bytes) past h
  replies_now past (Near e) r = absurd r
  replies_now past (Far e) r = record {
    call = r.call;
    to_it = since_map (λ y. paced.Takes one_clock near con y × (y.at ≡ e.at)) (λ y. Takes near con y × (y.at ≡ e.at))
        (λ y. handed y ≡ None) (λ y k. (takes_now near con y k.0, k.1)) (far_of past) r.to_it;
  }

  replies_then : (past : List Hop) (h : Hop) → OnFarThen (RepliesTo near con bytes) past h
      → OnFarThen (paced.RepliesTo one_clock near con bytes) past h
  replies_then past (Near e) r = absurd r
  replies_then past (Far e) r = record {
    call = r.call;
    to_it = since_map (λ y. Takes near con y × (y.at ≡ e.at)) (λ y. paced.Takes one_clock near con y × (y.at ≡ e.at))
        (λ y. handed y ≡ None) (λ y k. (takes_then near con y k.0, k.1)) (far_of past) r.to_it;
  }

  replied_now : (t : List Hop) → Sometime (OnFarThen (paced.RepliesTo one_clock near con bytes)) t
      → Sometime (OnFarThen (RepliesTo near con bytes)) t
  replied_now t h = Sometime_map (OnFarThen (paced.RepliesTo one_clock near con bytes))
      (OnFarThen (RepliesTo near con bytes)) replies_now t h

  replied_then : (t : List Hop) → Sometime (OnFarThen (RepliesTo near con bytes)) t
      → Sometime (OnFarThen (paced.RepliesTo one_clock near con bytes)) t
  replied_then t h = Sometime_map (OnFarThen (RepliesTo near con bytes))
      (OnFarThen (paced.RepliesTo one_clock near con bytes)) replies_then t h

always_map : (P Q : List Hop → Hop → Type 0) (t : List Hop) → Always P t
    → ((past : List Hop) (h : Hop) → P past h → Q past h) → Always Q t
always_map P Q [] law f = tt
always_map P Q (h ∷ past) law f = (f past h law.0, always_map P Q past law.1 f)

-- what is handed up under a CON's Message ID less than 400 s from its first sending is that CON
module _ (one other : Setup) (near far : Endpoint) (whole past : List Hop) (x : Entry) (con : Open)
    (near_law : LayerLaw one (near_of whole)) (law : ChannelLaw one other near far (Far x ∷ past))
    (lift : (P : Entry → Type 0) → Ever P (near_of past) → Ever P (near_of whole))
    (begun : Ever (IsBegun con) (near_of whole)) where
  pub takes_it : (m : Incoming) → handed x ≡ Some m → m.from ≡ near → m.message.id ≡ con.id
      → x.at ≤ con.first + id_reuse_after → con.first ≤ x.at + (id_reuse_after - last_arrival) → Takes near con x
  takes_it m up place id after before = takes_now near con x
      (takings.takes_it one_clock one other near far whole past x con near_law law lift begun m up place id (record {
        after = λ i is. (let s : i ≡ x.at = is in let k : i ≤ con.first + id_reuse_after = omega (arith, after, s) in
            k);
        before = λ i is. (let s : i ≡ x.at = is in
            let k : con.first ≤ i + (id_reuse_after - last_arrival) = omega (arith, before, s) in k);
      }))

module _ (one other : Setup) (near far : Endpoint) where
  pub earlier : (past : List Hop) (h : Hop) → ChannelLaw one other near far (h ∷ past)
      → ChannelLaw one other near far past
  earlier = facts.earlier one_clock one other near far

  at_hop : (past : List Hop) (h : Hop) (x : Entry) → ChannelLaw one other near far (h ∷ past) → h ≡ Far x
      → ChannelLaw one other near far (Far x ∷ past)
  at_hop past h x l is = subst (λ (y : Hop). ChannelLaw one other near far (y ∷ past)) is l

  sent_so : (past : List Hop) (x : Entry) (bytes : List ℕ) → ChannelLaw one other near far (Far x ∷ past)
      → x.call ≡ Receive near bytes → Sometime (SentSo far bytes x.at) (near_of past)
  sent_so past x bytes law call = at_once x.at (near_of past) (λ when. Sometime (SentSo far bytes when) (near_of past))
      (hops.sent_so one_clock one other near far past x bytes law call)

  pub begun_as : (past : List Hop) (x : Entry) (bytes : List ℕ) (m : Message)
      → ChannelLaw one other near far (Far x ∷ past) → x.call ≡ Receive near bytes → Spells bytes m → m.kind ≡ Con
      → BegunAs far bytes m.id x.at (near_of past)
  begun_as past x bytes m law call spells con =
      at_once x.at (near_of past) (λ when. BegunAs far bytes m.id when (near_of past))
      (hops.begun_as one_clock one other near far past x bytes law call m spells con)

  pub plain_sent : (past : List Hop) (x : Entry) (bytes : List ℕ) (m : Message)
      → ChannelLaw one other near far (Far x ∷ past) → x.call ≡ Receive near bytes → Spells bytes m → m.kind ≡ Non
      → Ever (PlainSent far bytes x.at) (near_of past)
  plain_sent past x bytes m law call spells non =
      at_once x.at (near_of past) (λ when. Ever (PlainSent far bytes when) (near_of past))
      (hops.plain_sent one_clock one other near far past x bytes law call m spells non)

  -- the clauses of the law

  pub arrives_as_sent : (all : List Hop) → ChannelLaw one other near far all → ArrivesAsSent near far all
  arrives_as_sent all law = facts.each_hop one_clock one other near far _
      (λ past h l x bytes is call. sent_so past x bytes (at_hop past h x l is) call) all law

  pub cons_begun : (all : List Hop) → ChannelLaw one other near far all → ConsBegun near far all
  cons_begun all law = facts.each_hop one_clock one other near far _
      (λ past h l x bytes m is call spells con. begun_as past x bytes m (at_hop past h x l is) call spells con) all law

  pub nons_sent : (all : List Hop) → ChannelLaw one other near far all → NonsSent near far all
  nons_sent all law = facts.each_hop one_clock one other near far _
      (λ past h l x bytes m is call spells non. plain_sent past x bytes m (at_hop past h x l is) call spells non) all
      law

  pub acks_replied : (all : List Hop) → ChannelLaw one other near far all → AcksReplied near far all
  acks_replied all law = always_map _ _ all (acks.acks_replied one_clock one other near far all law)
      (λ past h r x con is to_is k. replied_now near con k.bytes past (r x con is to_is k))

  pub replied_once : (all : List Hop) → ChannelLaw one other near far all → RepliedOnce near all
  replied_once all law con begun bytes other_bytes = always_map _ _ all
      (replied.replied_once one_clock one other near far all law con begun bytes other_bytes)
      (λ past h r now before. r (replies_then near con bytes past h now)
      (replied_then near con other_bytes past before))

  pub resets_meant : (all : List Hop) → ChannelLaw one other near far all → ResetsMeant near far all
  resets_meant all law =
      always_map _ _ all (resets.resets_meant one_clock one other near far all law)
      (λ past h r x con is to_is told k. replied_now near con k.bytes past (r x con is to_is told k))

-- two clocks that show the same are one

keeps : KeepsPace (λ i. i) (λ i. i)
keeps = record {
  rises = λ i j le. le;
  pace = λ i j passed le short is. (let k : j ≤ i + passed + max_gain = omega (arith, is) in k);
}

pub one_pace : KeepPace one_clock
one_pace = record { near = keeps; far = keeps }

shown_once : (c : Clocks) → ((i : ℕ) → c.near i ≡ c.far i) → (at : ℕ) (past : List Entry) (P : ℕ → Type 0)
    → Meanwhile c at past P → Meanwhile one_clock at past P
shown_once c same at past P m =
    let is : c.near m.instant ≡ at = same m.instant ∙ m.shown in
    record { instant = at; shown = refl; later = subst (λ n. clock past ≤ n) is m.later; so = subst P is m.so }

fair_once : (c : Clocks) → ((i : ℕ) → c.near i ≡ c.far i) → (near far : Endpoint) (past : List Hop) (h : Hop)
    → IsFair c near far past h → IsFair one_clock near far past h
fair_once c same near far past (Near e) fair =
    λ bytes call. shown_once (turned c) (λ i. sym (same i)) e.at (far_of past) _ (fair bytes call)
fair_once c same near far past (Far e) fair =
    λ bytes call. shown_once c same e.at (near_of past) _ (fair bytes call)

pub by_one : (c : Clocks) → ((i : ℕ) → c.near i ≡ c.far i) → (one other : Setup) (near far : Endpoint) (all : List Hop)
    → paced.ChannelLaw c one other near far all → ChannelLaw one other near far all
by_one c same one other near far all law = record {
  pace = one_pace;
  near_law = law.near_law;
  far_law = law.far_law;
  near_replies = law.near_replies;
  far_replies = law.far_replies;
  fair = always_map (IsFair c near far) (IsFair one_clock near far) all law.fair (fair_once c same near far);
}
