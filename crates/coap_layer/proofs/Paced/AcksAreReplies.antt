-- An acknowledgement is the reply that the other layer was given to that very CON.
use Rattle.std.proofs.Common.{◌≡◌, inl, inr, ⊎_elim, ℕ, ◌+◌, ◌≤◌, List, [], ◌∷◌, ◌++◌, Some, None, refl, ap}
use Rattle.std.proofs.Common.{sym, ◌∙◌, subst, arith, append_assoc}
use Rattle.coap_types.specs.Past.{Ever, Sometime, Since}
use Rattle.coap_types.proofs.Facts.Traces.{Ever_map, Ever_of_Sometime, Ever_of_Since, Sometime_of_Ever}
use Rattle.coap_types.proofs.Facts.Traces.{Sometime_of_Sometime, by_suffix, forget, found}
use Rattle.coap_types.specs.declared.endpoint.Endpoint.{Endpoint}
use Rattle.coap_types.specs.declared.message.Kind.TheVariants.{Con, Ack}
use Rattle.coap_types.specs.declared.transmission.TheConstants.{EXCHANGE_LIFETIME_MS as exchange_lifetime}
use Rattle.coap_types.specs.declared.transmission.TheConstants.{LAST_ARRIVAL_MS as last_arrival}
use Rattle.coap_types.specs.declared.transmission.TheConstants.{MAX_LATENCY_MS as max_latency}
use Rattle.coap_codec.specs.Message.{Message, Spells}
use Rattle.coap_layer.specs.Channel.{HandedBy, Hop, Near, Far, near_of, far_of, OnFar, GaveOut, IsLatest, RepliesAtOnce}
use Rattle.coap_layer.specs.Channel.{BegunAs, HearsAck, OnFarThen}
use Rattle.coap_layer.specs.Clocks.{Clocks, turned, max_gain}
use Rattle.coap_layer.specs.Machine.Calls.{IsBegun}
use Rattle.coap_layer.specs.Paced.{Meanwhile, ChannelLaw, CanArrive, Takes, AcksTaken, RepliesTo, AcksReplied}
use Rattle.coap_layer.specs.Paced.{Lately, AcksLately, RepliedBehind, AcksBehind}
use Rattle.coap_layer.specs.Rows.{LayerLaw, Row}
use Rattle.coap_layer.specs.Sends.{IsIn, as_begun, ReplyOut, StoredOut, SpellsCon}
use Rattle.coap_layer.specs.Trace.{Setup, Packet, Receive, Reply, Entry}
use Rattle.coap_layer.specs.Words.{Incoming, handed, reply_in, awaits, Open, outstanding}
use Rattle.coap_layer.proofs.Between.WhatIsTaken.{alone}
use Rattle.coap_layer.proofs.Between.StoredReplies.{by_clock, since_young}
use Rattle.coap_layer.proofs.Arrivals.HandedAsSpelled.{handed_so, Heard, heard, IsOf, latest_is}
use Rattle.coap_layer.proofs.Between.WhatComesByType.{Comes, a_con, a_non, a_reply, a_stored, a_reset, comes}
use Rattle.coap_layer.proofs.Between.WhatComesByType.{one_message, replied_call, spelled_begun}
use Rattle.coap_layer.proofs.Copies.CopiesInTime.{was_begun, begun_by}
use Rattle.coap_layer.proofs.Facts.Hops.{to_far, near_later}
use Rattle.coap_layer.proofs.Numbers.OneEntryForAnId.{one_con}
use Rattle.coap_layer.proofs.Out.EachGoesOut.{goes_out}
use Rattle.coap_layer.proofs.Paced.Facts.{earlier, each_hop}
use Rattle.coap_layer.proofs.Paced.Gaps.{near_gap}
use Rattle.coap_layer.proofs.Paced.GoneIsNotBehind.{begun_by_clock}
use Rattle.coap_layer.proofs.Paced.TakenOnce.{IsNear, near_then, near_before, takes_it}
use Rattle.coap_layer.proofs.Paced.WhatArrivesWasSent.{begun_as}

-- the front of the trace in which something happened, in the whole of it
pub record Part (c : Clocks) (one other : Setup) (near far : Endpoint) (whole r : List Hop) : Type 0 where
  pub law : ChannelLaw c one other near far r
  pub later : List Hop
  pub is : whole ≡ later ++ r

module _ (c : Clocks) (one other : Setup) (near far : Endpoint) (whole : List Hop) (x : Entry) (con : Open)
    (all_law : ChannelLaw c one other near far (Near x ∷ whole)) (to_is : con.to ≡ far)
    (open_is : IsIn con (outstanding (near_of whole))) (now : ℕ) (now_is : c.near now ≡ x.at) where
  abbrev P : List Hop → Type 0
  P r = Part c one other near far whole r

  down : (past : List Hop) (h : Hop) → P (h ∷ past) → P past
  down past h p = record {
    law = earlier c one other near far past h p.law;
    later = p.later ++ h ∷ [];
    is = p.is ∙ sym (append_assoc p.later (h ∷ []) past);
  }

  near_law : LayerLaw one (near_of whole)
  near_law = all_law.near_law.1

  begun : Ever (IsBegun (as_begun con)) (near_of whole)
  begun = was_begun (near_of whole) con open_is

  lift : (r : List Hop) → P r → (Q : Entry → Type 0) → Ever Q (near_of r) → Ever Q (near_of whole)
  lift r p Q h = near_later Q whole p.later r p.is h

  late : con.first ≤ x.at
  late = let k = begun_by one (near_of whole) (as_begun con) near_law begun in let t =
      all_law.near_law.0.time in omega (arith, k, t)

  -- what the far layer gave out at most 100 s before, by its clock, was so at most 105 s before by the near one
  lately : (i at : ℕ) → c.far i ≡ at → c.far now ≤ at + max_latency → x.at ≤ c.near i + max_latency + max_gain
  lately i at is young =
      let g = near_gap c all_law.pace i now max_latency (omega arith) (omega (arith, is, young)) in
      omega (arith, g, now_is)

  -- a CON under the same Message ID that reached the other layer then is this one
  this_con : (q : List Hop) (bytes : List ℕ) (id when : ℕ) → P q → BegunAs far bytes id when (near_of q) → id ≡ con.id
      → x.at ≤ when + max_latency + max_gain → (con.first ≤ when) × (when ≤ con.first + last_arrival)
  this_con q bytes id when p b is after =
      let there = lift q p (IsBegun b.con) b.begun in
      let first : b.con.first ≤ con.first = alone one (near_of whole) con b.con near_law open_is there
      (to_is ∙ sym b.to_is) in
      let f = b.from in
      let t = b.till in
      let same : b.con ≡ as_begun con = one_con one (near_of whole) b.con (as_begun con) near_law there begun
      (b.id_is ∙ is) (omega (arith, first)) (omega (arith, late, t, after)) in
      let i : b.con.first ≡ con.first = ap (λ (y : Open). y.first) same in
      (omega (arith, i, f), omega (arith, i, t))

  -- where it was taken, it had begun
  begun_before : (q : List Hop) → P q → Ever (Takes c near con) (far_of q) → Ever (IsBegun (as_begun con)) (near_of q)
  begun_before q p h =
      found (λ t k. Z (k ∷ t)) Z grows (λ t k z. z) q
      (by_suffix P (λ t k. OnFar (Takes c near con) k) (λ t k. Z (k ∷ t)) down at_place q p
      (Sometime_of_Ever _ q (to_far (Takes c near con) q h)))
    where
      Z : List Hop → Type 0
      Z t = Ever (IsBegun (as_begun con)) (near_of t)

      grows : (k : Hop) (t : List Hop) → Z t → Z (k ∷ t)
      grows (Near k) t z = inr z
      grows (Far k) t z = z

      says : SpellsCon (as_begun con)
      says = spelled_begun one (near_of whole) (as_begun con) near_law begun

      at_place : (t : List Hop) (k : Hop) → P (k ∷ t) → OnFar (Takes c near con) k → Z (k ∷ t)
      at_place t (Near y) w z = absurd z
      at_place t (Far y) w z =
          let b : Meanwhile c y.at (near_of t) (λ when. BegunAs far con.bytes says.0.id when (near_of t)) =
          begun_as c one other near far t y con.bytes w.law z.call says.0 says.1 says.2 in
          let o = b.so in
          let f = o.from in
          let l = o.till in
          let close = near_then c w.law.pace con.first y.at z.then in
          let after = close.after b.instant b.shown in
          let before = close.before b.instant b.shown in
          let same : o.con ≡ as_begun con = one_con one (near_of whole) o.con (as_begun con) near_law
          (lift t (down t (Far y) w) (IsBegun o.con) o.begun) begun (o.id_is ∙ says.3) (omega (arith, f, after))
          (omega (arith, l, before)) in
          subst (λ y. Ever (IsBegun y) (near_of t)) same o.begun

  replied_behind : (bytes : List ℕ) (q : List Hop) (h : Hop) → P (h ∷ q) → OnFarThen (RepliesTo c near con bytes) q h
      → RepliedBehind c near con bytes q h
  replied_behind bytes q (Near k) p r = absurd r
  replied_behind bytes q (Far k) p r = (
    r,
    begun_by_clock one (as_begun con) (near_of q) p.law.near_law (begun_before q (down q (Far k) p)
        (Ever_map (λ y. Takes c near con y × (y.at ≡ k.at)) (Takes c near con) (λ y z. z.0) (far_of q)
        (Ever_of_Since (λ y. Takes c near con y × (y.at ≡ k.at)) (λ y. handed y ≡ None) (far_of q) r.to_it))),
  )

  as_con : (e : Entry) → Takes c near (as_begun con) e → Takes c near con e
  as_con e t = record { call = t.call; up = t.up; then = t.then }

  module _ (m : Message) (ack : m.kind ≡ Ack) (id_is : m.id ≡ con.id) (bytes : List ℕ)
      (spells : Spells bytes m) where
    abbrev R : List Hop → Hop → Type 0
    R = OnFarThen (RepliesTo c near con bytes)

    -- what was handed up last is this CON
    last_is : (at : ℕ) (up : Incoming) → up.from ≡ near → up.message.id ≡ con.id
        → IsNear c con.first at → (q : List Hop) → P q → IsLatest (far_of q) at up
        → Since (λ y. Takes c near con y × (y.at ≡ at)) (λ y. handed y ≡ None) (far_of q)
    last_is at up place id close [] p h = absurd h
    last_is at up place id close (Near e ∷ q) p h = last_is at up place id close q (down q (Near e) p) h
    last_is at up place id close (Far y ∷ q) p (inl z) =
        inl (
          as_con y (takes_it c one other near far whole q y (as_begun con) near_law p.law
              (lift q (down q (Far y) p)) begun up z.0 place id (subst (IsNear c con.first) (sym z.1) close)),
          z.1,
        )
    last_is at up place id close (Far y ∷ q) p (inr z) =
        inr (z.0, last_is at up place id close q (down q (Far y) p) z.1)

    -- a reply that is given under the CON's Message ID, less than 400 s from its first sending
    record Replied (q : List Hop) (k : Entry) (id : ℕ) : Type 0 where
      pub call : k.call ≡ Reply near id bytes
      pub awaited : awaits (far_of q) ≡ Some (record { from = near; id = id })
      pub at_once : RepliesAtOnce (far_of q) k.at id bytes
      pub id_there : id ≡ con.id
      pub of : IsOf at_once.to_what (record { from = near; id = id })
      pub con_there : at_once.to_what.message.kind ≡ Con

    replied : (q : List Hop) (k : Entry) (id : ℕ) → k.call ≡ Reply near id bytes
        → awaits (far_of q) ≡ Some (record { from = near; id = id }) → (a : RepliesAtOnce (far_of q) k.at id bytes)
        → Replied q k id
    replied q k id call awaited a =
        let same : a.reply ≡ m = one_message bytes a.reply m a.spells spells in
        record {
          call = call;
          awaited = awaited;
          at_once = a;
          id_there = sym a.id_is ∙ (ap (λ (z : Message). z.id) same ∙ id_is);
          of = latest_is (far_of q) k.at a.to_what _ awaited a.latest;
          con_there = ⊎_elim (λ d. let kind = ap (λ (z : Message). z.kind) same in absurd (cc (d, kind, ack)))
              (λ d. d.1) a.kind;
        }

    replies_to : (q : List Hop) (k : Entry) (id : ℕ) → P (Far k ∷ q) → Replied q k id → IsNear c con.first k.at
        → R q (Far k)
    replies_to q k id p r close =
        record {
          call = r.call ∙ ap (λ (i : ℕ). Reply near i bytes) r.id_there;
          to_it = last_is k.at r.at_once.to_what r.of.from_is (r.of.id_is ∙ r.id_there) close q
              (down q (Far k) p) r.at_once.latest;
        }

    -- when it is given, for the first time
    window : (q : List Hop) (k : Entry) (id : ℕ) → P (Far k ∷ q) → c.far now ≤ k.at + max_latency → Replied q k id
        → CanArrive c con.first k.at
    window q k id p after r =
        forget W q (Ever_of_Sometime _ (λ h. W) (λ t h z. inl z) q
        (by_suffix P (λ t h. OnFar Up h) (λ t h. W) down at_place q (down q (Far k) p)
        (Sometime_of_Ever _ q (to_far _ q (Ever_of_Since _ _ (far_of q) r.at_once.latest)))))
      where
        W : Type 0
        W = CanArrive c con.first k.at

        up : Incoming
        up = r.at_once.to_what

        Up : Entry → Type 0
        Up y = (handed y ≡ Some up) × (y.at ≡ k.at)

        at_place : (t : List Hop) (h : Hop) → P (h ∷ t) → OnFar Up h → W
        at_place t (Near y) w z = absurd z
        at_place t (Far y) w z =
            let u : HandedBy y up = handed_so other (far_of t) y up w.law.far_law.0 z.0 in
            let call = u.call ∙ ap (λ (f : Endpoint). Receive f u.bytes) r.of.from_is in
            let b : Meanwhile c y.at (near_of t) (λ when. BegunAs far u.bytes up.message.id when (near_of t)) =
            begun_as c one other near far t y u.bytes w.law call up.message u.spells r.con_there in
            let k_is : c.far b.instant ≡ k.at = b.shown ∙ z.1 in
            let d = this_con t u.bytes up.message.id (c.near b.instant) (down t (Far y) w) b.so
            (r.of.id_is ∙ r.id_there)
            (lately b.instant k.at k_is after) in
            record { instant = b.instant; shown = k_is; from = d.0; till = d.1 }

    given : (q : List Hop) (k : Entry) → P (Far k ∷ q) → c.far now ≤ k.at + max_latency
        → (r : ReplyOut (far_of q) k (record { to = near; bytes = bytes })) → R q (Far k)
    given q k p after r =
        let is : Replied q k r.id = replied q k r.id r.call r.awaited (p.law.far_replies.0 near r.id bytes r.call) in
        replies_to q k r.id p is (near_then c p.law.pace con.first k.at (window q k r.id p after is))

    -- a stored reply: a copy of the CON came
    again_here : (q : List Hop) (k : Entry) → P (Far k ∷ q) → c.far now ≤ k.at + max_latency
        → (r : StoredOut (far_of q) k (record { to = near; bytes = bytes })) → r.message.id ≡ m.id
        → CanArrive c con.first k.at
    again_here q k p after r is =
        let came_again : Meanwhile c k.at (near_of q) (λ when. BegunAs far r.bytes r.message.id when (near_of q)) =
        begun_as c one other near far q k r.bytes p.law r.call r.message r.spells r.kind in
        let d = this_con q r.bytes r.message.id (c.near came_again.instant) (down q (Far k) p) came_again.so
        (is ∙ id_is)
        (lately came_again.instant k.at came_again.shown after) in
        record { instant = came_again.instant; shown = came_again.shown; from = d.0; till = d.1 }

    stored_again : (q : List Hop) (k : Entry) → P (Far k ∷ q) → c.far now ≤ k.at + max_latency
        → (r : StoredOut (far_of q) k (record { to = near; bytes = bytes })) → r.message.id ≡ m.id → Sometime R q
    stored_again q k p after r is =
        by_suffix P (λ t h. OnFar Gives h) R down at_place q (down q (Far k) p)
        (Sometime_of_Ever _ q (to_far _ q (by_clock other _ (far_of q) k.at p.law.far_law.1 p.law.far_law.0.time
        (since_young other k.at near r.message.id _ (far_of q) p.law.far_law.1 r.given r.old))))
      where
        Gives : Entry → Type 0
        Gives b = ((reply_in near r.message.id b.call ≡ Some bytes) × (k.at ≤ b.at + exchange_lifetime)) × (b.at ≤ k.at)

        at_place : (t : List Hop) (h : Hop) → P (h ∷ t) → OnFar Gives h → R t h
        at_place t (Near b) w z = absurd z
        at_place t (Far b) w z =
            let call = replied_call near r.message.id bytes b.call z.0.0 in
            let row = subst (Row other (far_of t) b) call w.law.far_law.0.row in
            replies_to t b r.message.id w (replied t b r.message.id call row.0
            (w.law.far_replies.0 near r.message.id bytes call))
            (near_before c w.law.pace con.first b.at k.at (again_here q k p after r is) z.1 z.0.1)

    -- it was given as the CON was handed up
    first_here : (q : List Hop) (k : Entry) → R q (Far k) → CanArrive c con.first k.at
    first_here q k r =
        forget (CanArrive c con.first k.at) (far_of q) (Ever_map (λ y. Takes c near con y × (y.at ≡ k.at))
        (λ y. CanArrive c con.first k.at) (λ y z. subst (CanArrive c con.first) z.1 z.0.then) (far_of q)
        (Ever_of_Since (λ y. Takes c near con y × (y.at ≡ k.at)) (λ y. handed y ≡ None) (far_of q) r.to_it))

    -- as a copy came, which is at most MAX_LATENCY ago
    lately_by : (at : ℕ) → CanArrive c con.first at → c.far now ≤ at + max_latency → Lately c con.first x.at
    lately_by at t young = record {
      taken = now;
      shown = now_is;
      given = t.instant;
      late = (let s = t.shown in omega (arith, s, young));
      till = t.till;
    }

    gave_lately : (q : List Hop) (h : Hop) → P (h ∷ q) → OnFar (GaveOut near bytes (c.far now)) h
        → Lately c con.first x.at
    gave_lately q (Near k) p g = absurd g
    gave_lately q (Far k) p g = go (comes other (far_of q) k packet m p.law.far_law p.law.far_replies spells
        (goes_out other (far_of q) k packet p.law.far_law g.out))
      where
        packet : Packet
        packet = record { to = near; bytes = bytes }

        go : Comes (far_of q) k packet m → Lately c con.first x.at
        go (a_con kind b) = absurd (cc (kind, ack))
        go (a_non kind b d) = absurd (cc (kind, ack))
        go (a_reply kind r a is) = lately_by k.at (first_here q k (given q k p g.till r)) g.till
        go (a_stored kind r is) = lately_by k.at (again_here q k p g.till r is) g.till
        go (a_reset kind) = absurd (cc (kind, ack))

    gave : (q : List Hop) (h : Hop) → P (h ∷ q) → OnFar (GaveOut near bytes (c.far now)) h → Sometime R (h ∷ q)
    gave q (Near k) p g = absurd g
    gave q (Far k) p g = go (comes other (far_of q) k packet m p.law.far_law p.law.far_replies spells
        (goes_out other (far_of q) k packet p.law.far_law g.out))
      where
        packet : Packet
        packet = record { to = near; bytes = bytes }

        go : Comes (far_of q) k packet m → Sometime R (Far k ∷ q)
        go (a_con kind b) = absurd (cc (kind, ack))
        go (a_non kind b d) = absurd (cc (kind, ack))
        go (a_reply kind r a is) = inl (given q k p g.till r)
        go (a_stored kind r is) = inr (stored_again q k p g.till r is)
        go (a_reset kind) = absurd (cc (kind, ack))

module _ (c : Clocks) (one other : Setup) (near far : Endpoint) (whole : List Hop) (x : Entry) (con : Open)
    (all_law : ChannelLaw c one other near far (Near x ∷ whole)) (to_is : con.to ≡ far) where
  ack_replied : (h : HearsAck con (near_of whole) x) → Sometime (OnFarThen (RepliesTo c near con h.bytes)) whole
  ack_replied h =
      let r : Heard h.bytes con.id = heard one (near_of whole) x con.to h.bytes con.id all_law.near_law.0 h.call
      h.answer in
      let came : Meanwhile (turned c) x.at (far_of whole) (λ when. Ever (OnFar (GaveOut near h.bytes when)) whole) =
      all_law.fair.0 h.bytes (h.call ∙ ap (λ (f : Endpoint). Receive f h.bytes) to_is) in
      Sometime_of_Sometime (λ q k. Sometime (OnFarThen (RepliesTo c near con h.bytes)) (k ∷ q))
      (OnFarThen (RepliesTo c near con h.bytes)) (λ q k z. z) whole
      (by_suffix (Part c one other near far whole) (λ q k. OnFar (GaveOut near h.bytes (c.far came.instant)) k)
      (λ q k. Sometime (OnFarThen (RepliesTo c near con h.bytes)) (k ∷ q))
      (down c one other near far whole x con all_law to_is h.is_outstanding came.instant came.shown)
      (gave c one other near far whole x con all_law to_is h.is_outstanding came.instant came.shown r.message r.kind
      r.id_is
      h.bytes r.spells) whole
      (record { law = earlier c one other near far whole (Near x) all_law; later = []; is = refl })
      (Sometime_of_Ever _ whole came.so))

  -- it was given lately, and behind the CON's beginning
  module _ (h : HearsAck con (near_of whole) x) where
    came_in : Meanwhile (turned c) x.at (far_of whole) (λ when. Ever (OnFar (GaveOut near h.bytes when)) whole)
    came_in = all_law.fair.0 h.bytes (h.call ∙ ap (λ (f : Endpoint). Receive f h.bytes) to_is)

    part_whole : Part c one other near far whole whole
    part_whole = record { law = earlier c one other near far whole (Near x) all_law; later = []; is = refl }

    ack_lately : Lately c con.first x.at
    ack_lately =
        let r : Heard h.bytes con.id = heard one (near_of whole) x con.to h.bytes con.id all_law.near_law.0 h.call
        h.answer in
        forget (Lately c con.first x.at) whole (Ever_of_Sometime (λ q k. Lately c con.first x.at)
        (λ k. Lately c con.first x.at) (λ q k z. inl z) whole
        (by_suffix (Part c one other near far whole) (λ q k. OnFar (GaveOut near h.bytes (c.far came_in.instant)) k)
        (λ q k. Lately c con.first x.at)
        (down c one other near far whole x con all_law to_is h.is_outstanding came_in.instant came_in.shown)
        (gave_lately c one other near far whole x con all_law to_is h.is_outstanding came_in.instant came_in.shown
        r.message
        r.kind r.id_is h.bytes r.spells) whole part_whole (Sometime_of_Ever _ whole came_in.so)))

    ack_behind : Sometime (RepliedBehind c near con h.bytes) whole
    ack_behind = by_suffix (Part c one other near far whole) (OnFarThen (RepliesTo c near con h.bytes))
        (RepliedBehind c near con h.bytes)
        (down c one other near far whole x con all_law to_is h.is_outstanding came_in.instant came_in.shown)
        (replied_behind c one other near far whole x con all_law to_is h.is_outstanding came_in.instant came_in.shown
        h.bytes)
        whole part_whole (ack_replied h)

pub acks_lately : (c : Clocks) (one other : Setup) (near far : Endpoint) (all : List Hop)
    → ChannelLaw c one other near far all → AcksLately c near far all
acks_lately c one other near far all law =
    each_hop c one other near far _ (λ past h l x con is to_is k. ack_lately c one other near far past x con
    (subst (λ (y : Hop). ChannelLaw c one other near far (y ∷ past)) is l) to_is k) all law

pub acks_behind : (c : Clocks) (one other : Setup) (near far : Endpoint) (all : List Hop)
    → ChannelLaw c one other near far all → AcksBehind c near far all
acks_behind c one other near far all law =
    each_hop c one other near far _ (λ past h l x con is to_is k. ack_behind c one other near far past x con
    (subst (λ (y : Hop). ChannelLaw c one other near far (y ∷ past)) is l) to_is k) all law

pub acks_replied : (c : Clocks) (one other : Setup) (near far : Endpoint) (all : List Hop)
    → ChannelLaw c one other near far all → AcksReplied c near far all
acks_replied c one other near far all law =
    each_hop c one other near far _ (λ past h l x con is to_is k. ack_replied c one other near far past x con
    (subst (λ (y : Hop). ChannelLaw c one other near far (y ∷ past)) is l) to_is k) all law

-- what a reply was given to was taken
replied_taken : (c : Clocks) (near : Endpoint) (con : Open) (bytes : List ℕ) (past : List Hop) (h : Hop)
    → OnFarThen (RepliesTo c near con bytes) past h → Ever (OnFar (Takes c near con)) (h ∷ past)
replied_taken c near con bytes past (Near k) r = absurd r
replied_taken c near con bytes past (Far k) r =
    inr (to_far _ past (Ever_map _ _ (λ y z. z.0) (far_of past) (Ever_of_Since _ _ (far_of past) r.to_it)))

pub acks_taken : (c : Clocks) (one other : Setup) (near far : Endpoint) (all : List Hop)
    → ChannelLaw c one other near far all → AcksTaken c near far all
acks_taken c one other near far all law =
    each_hop c one other near far _
    (λ past h l x con is to_is k.
    Ever_of_Sometime (OnFarThen (RepliesTo c near con k.bytes)) (OnFar (Takes c near con))
    (replied_taken c near con k.bytes) past
    (ack_replied c one other near far past x con (subst (λ (y : Hop). ChannelLaw c one other near far (y ∷ past)) is l)
    to_is k)) all law
