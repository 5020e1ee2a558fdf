-- A Reset that is taken for a request or a response is the reply that the other layer was given to that very CON.
use Rattle.std.proofs.Common.{◌-◌, ◌≡◌, inl, inr, ⊎_elim, ℕ, ◌+◌, ◌≤◌, List, [], ◌∷◌, ◌++◌, Some, None, refl, ap}
use Rattle.std.proofs.Common.{sym, ◌∙◌, subst, arith, append_assoc}
use Rattle.coap_types.specs.Past.{Ever, Sometime, Since}
use Rattle.coap_types.proofs.Facts.Traces.{Ever_of_Sometime, Ever_of_Since, Sometime_of_Ever, Sometime_of_Sometime}
use Rattle.coap_types.proofs.Facts.Traces.{by_suffix, forget}
use Rattle.coap_types.specs.Roles.{role_of}
use Rattle.coap_types.specs.declared.endpoint.Endpoint.{Endpoint}
use Rattle.coap_types.specs.declared.message.Kind.TheVariants.{Con, Non, Rst}
use Rattle.coap_codec.specs.Message.{Message, Spells}
use Rattle.coap_layer.specs.Arrivals.{Faulted, Whole, Shows}
use Rattle.coap_layer.specs.Trace.{Setup, with_head, Packet, Receive, Reply, Entry}
use Rattle.coap_layer.specs.Words.{Incoming, handed, reply_in, awaits, Open, outstanding}
use Rattle.coap_layer.specs.Rows.{LayerLaw, Row}
use Rattle.coap_layer.specs.Sends.{IsIn, as_begun, ReplyOut, StoredOut, ResetOut, SpellsCon, GoesOut, first, copy}
use Rattle.coap_layer.specs.Sends.{plain, reply, stored, reset}
use Rattle.coap_layer.specs.Channel.{HandedBy, Hop, Near, Far, near_of, far_of, OnFar, GaveOut, IsLatest, RepliesAtOnce}
use Rattle.coap_layer.specs.Channel.{BegunAs, OnFarThen, SentSo}
use Rattle.coap_layer.specs.Clocks.{Clocks, turned, max_gain}
use Rattle.coap_layer.specs.Paced.{Meanwhile, ChannelLaw, CanArrive, Takes, RepliesTo, ResetsMeant}
use Rattle.coap_layer.specs.Taking.{IsTold, HearsReset}
use Rattle.coap_types.specs.declared.transmission.TheConstants.{EXCHANGE_LIFETIME_MS as exchange_lifetime}
use Rattle.coap_types.specs.declared.transmission.TheConstants.{LAST_ARRIVAL_MS as last_arrival}
use Rattle.coap_types.specs.declared.transmission.TheConstants.{ID_REUSE_AFTER_MS as id_reuse_after}
use Rattle.coap_types.specs.declared.transmission.TheConstants.{MAX_LATENCY_MS as max_latency}
use Rattle.coap_layer.proofs.Between.WhatIsTaken.{alone}
use Rattle.coap_layer.proofs.Between.StoredReplies.{by_clock, since_young}
use Rattle.coap_layer.proofs.Copies.CopiesInTime.{was_begun, begun_by}
use Rattle.coap_layer.proofs.Paced.AcksAreReplies.{Part}
use Rattle.coap_layer.proofs.Between.WhatComesByType.{one_message, replied_call, spelled_begun, SpellsReply}
use Rattle.coap_layer.proofs.Between.WhatComesByType.{stored_reply}
use Rattle.coap_layer.proofs.Arrivals.AcksAreTaken.{sorts_as}
use Rattle.coap_layer.proofs.Arrivals.HandedAsSpelled.{handed_so, IsOf, latest_is}
use Rattle.coap_layer.proofs.Facts.Arrivals.{one_arrival}
use Rattle.coap_layer.proofs.Facts.Hops.{to_far, near_later}
use Rattle.coap_layer.proofs.Paced.Facts.{earlier, each_hop}
use Rattle.coap_layer.proofs.Paced.Gaps.{near_gap}
use Rattle.coap_layer.proofs.Paced.WhatArrivesWasSent.{begun_as, sent_so, Came, con_came, non_came, reply_came, came}
use Rattle.coap_layer.specs.Machine.Calls.{IsBegun}
use Rattle.coap_layer.proofs.Numbers.OneEntryForAnId.{one_con, no_plain, SendsPlain}
use Rattle.coap_layer.proofs.Out.EachGoesOut.{goes_out}
use Rattle.coap_layer.proofs.Paced.TakenOnce.{IsNear, near_before, takes_it}
use Rattle.coap_layer.proofs.Between.WhatAResetSays.{reset_id, no_fault, sent_what, Lawful, HeardReset, arrived_reset}
use Rattle.coap_layer.proofs.Between.WhatAResetSays.{rejected_class}

module _ (c : Clocks) (one other : Setup) (near far : Endpoint) (whole : List Hop) (x : Entry) (con : Open)
    (all_law : ChannelLaw c one other near far (Near x ∷ whole)) (to_is : con.to ≡ far)
    (open_is : IsIn con (outstanding (near_of whole))) (told : IsTold con.bytes)
    (young_is : x.at + max_gain ≤ con.first + id_reuse_after) (now : ℕ) (now_is : c.near now ≡ x.at) where
  abbrev P : List Hop → Type 0
  P r = Part c one other near far whole r

  down : (past : List Hop) (h : Hop) → P (h ∷ past) → P past
  down past h p = record {
    law = earlier c one other near far past h p.law;
    later = p.later ++ h ∷ [];
    is = p.is ∙ sym (append_assoc p.later (h ∷ []) past);
  }

  near_law : LayerLaw one (near_of whole)
  near_law = all_law.near_law.1

  begun_there : Ever (IsBegun (as_begun con)) (near_of whole)
  begun_there = was_begun (near_of whole) con open_is

  lift : (r : List Hop) → P r → (Q : Entry → Type 0) → Ever Q (near_of r) → Ever Q (near_of whole)
  lift r p Q h = near_later Q whole p.later r p.is h

  late : con.first ≤ x.at
  late = let k = begun_by one (near_of whole) (as_begun con) near_law begun_there in let t =
      all_law.near_law.0.time in omega (arith, k, t)

  -- what the far layer gave out at most 100 s before, by its clock, was so at most 105 s before by the near one
  lately : (i at : ℕ) → c.far i ≡ at → c.far now ≤ at + max_latency → x.at ≤ c.near i + max_latency + max_gain
  lately i at is young =
      let g = near_gap c all_law.pace i now max_latency (omega arith) (omega (arith, is, young)) in
      omega (arith, g, now_is)

  -- so that is near the CON
  close_to : (at : ℕ) → at ≤ c.far now → c.far now ≤ at + max_latency → IsNear c con.first at
  close_to at before young = record {
    after = λ i is.
        (let g = near_gap c all_law.pace now i 0 (omega arith) (omega (arith, is, before)) in
        omega (arith, g, now_is, young_is));
    before = λ i is. (let g = lately i at is young in omega (arith, g, late));
  }

  -- a CON under the same Message ID that reached the other layer then is this one
  same_con : (q : List Hop) (bytes : List ℕ) (id when : ℕ) → P q → (b : BegunAs far bytes id when (near_of q))
      → id ≡ con.id → x.at ≤ when + max_latency + max_gain → b.con ≡ as_begun con
  same_con q bytes id when p b is after =
      let there = lift q p (IsBegun b.con) b.begun in
      let first : b.con.first ≤ con.first = alone one (near_of whole) con b.con near_law open_is there
      (to_is ∙ sym b.to_is) in
      let t = b.till in
      one_con one (near_of whole) b.con (as_begun con) near_law there begun_there
      (b.id_is ∙ is) (omega (arith, first)) (omega (arith, late, t, after))

  this_con : (q : List Hop) (bytes : List ℕ) (id when : ℕ) → P q → BegunAs far bytes id when (near_of q) → id ≡ con.id
      → x.at ≤ when + max_latency + max_gain → (con.first ≤ when) × (when ≤ con.first + last_arrival)
  this_con q bytes id when p b is after =
      let f = b.from in
      let t = b.till in
      let i : b.con.first ≡ con.first =
      ap (λ (y : Open). y.first) (same_con q bytes id when p b is after) in
      (omega (arith, i, f), omega (arith, i, t))

  as_con : (e : Entry) → Takes c near (as_begun con) e → Takes c near con e
  as_con e t = record { call = t.call; up = t.up; then = t.then }

  module _ (m : Message) (rst : m.kind ≡ Rst) (id_is : m.id ≡ con.id) (bytes : List ℕ)
      (spells : Spells bytes m) where
    abbrev R : List Hop → Hop → Type 0
    R = OnFarThen (RepliesTo c near con bytes)

    -- what was handed up last is this CON
    last_is : (at : ℕ) (up : Incoming) → up.from ≡ near → up.message.id ≡ con.id
        → IsNear c con.first at → (q : List Hop) → P q → IsLatest (far_of q) at up
        → Since (λ y. Takes c near con y × (y.at ≡ at)) (λ y. handed y ≡ None) (far_of q)
    last_is at up place id close [] p h = absurd h
    last_is at up place id close (Near e ∷ q) p h = last_is at up place id close q (down q (Near e) p) h
    last_is at up place id close (Far y ∷ q) p (inl z) =
        inl (
          as_con y (takes_it c one other near far whole q y (as_begun con) near_law p.law
              (lift q (down q (Far y) p)) begun_there up z.0 place id (subst (IsNear c con.first) (sym z.1) close)),
          z.1,
        )
    last_is at up place id close (Far y ∷ q) p (inr z) =
        inr (z.0, last_is at up place id close q (down q (Far y) p) z.1)

    -- a reply that is given under the CON's Message ID, less than 400 s from its first sending
    record Replied (q : List Hop) (k : Entry) (id : ℕ) : Type 0 where
      pub call : k.call ≡ Reply near id bytes
      pub awaited : awaits (far_of q) ≡ Some (record { from = near; id = id })
      pub at_once : RepliesAtOnce (far_of q) k.at id bytes
      pub id_there : id ≡ con.id
      pub of : IsOf at_once.to_what (record { from = near; id = id })
      pub con_there : at_once.to_what.message.kind ≡ Con

    -- it was given to no NON: none has the CON's Message ID within 400 s
    to_a_con : (q : List Hop) (k : Entry) (id : ℕ) → P (Far k ∷ q) → IsNear c con.first k.at → (up : Incoming)
        → IsOf up (record { from = near; id = id }) → id ≡ con.id → IsLatest (far_of q) k.at up → up.message.kind ≡ Con
    to_a_con q k id p close up of id_there latest =
        forget W q (Ever_of_Sometime _ (λ h. W) (λ t h z. inl z) q
        (by_suffix P (λ t h. OnFar Up h) (λ t h. W) down at_place q (down q (Far k) p)
        (Sometime_of_Ever _ q (to_far _ q (Ever_of_Since _ _ (far_of q) latest)))))
      where
        W : Type 0
        W = up.message.kind ≡ Con

        Up : Entry → Type 0
        Up y = (handed y ≡ Some up) × (y.at ≡ k.at)

        at_place : (t : List Hop) (h : Hop) → P (h ∷ t) → OnFar Up h → W
        at_place t (Near y) w z = absurd z
        at_place t (Far y) w z = go m_came.so
          where
            u : HandedBy y up
            u = handed_so other (far_of t) y up w.law.far_law.0 z.0

            call : y.call ≡ Receive near u.bytes
            call = u.call ∙ ap (λ (f : Endpoint). Receive f u.bytes) of.from_is

            m_came : Meanwhile c y.at (near_of t) (λ when. Came far u.bytes up.message when (near_of t))
            m_came = came c one other near far t y u.bytes w.law call up.message u.spells

            when : ℕ
            when = c.near m_came.instant

            low : con.first ≤ when + (id_reuse_after - last_arrival)
            low = close.before m_came.instant (m_came.shown ∙ z.1)

            high : when ≤ con.first + id_reuse_after
            high = close.after m_came.instant (m_came.shown ∙ z.1)

            go : Came far u.bytes up.message when (near_of t) → W
            go (con_came kind b) = kind
            go (non_came kind at s from till) =
                absurd (no_plain one (near_of whole) (as_begun con) at near_law begun_there
                (subst (λ (i : ℕ). Ever (SendsPlain i at) (near_of whole)) (of.id_is ∙ id_there)
                (lift t (down t (Far y) w) (SendsPlain up.message.id at) s))
                (omega (arith, low, till)) (omega (arith, high, from)))
            go (reply_came (inl kind)) = absurd (⊎_elim (λ a. cc (a, kind)) (λ a. cc (a, kind)) u.kind)
            go (reply_came (inr kind)) = absurd (⊎_elim (λ a. cc (a, kind)) (λ a. cc (a, kind)) u.kind)

    replied : (q : List Hop) (k : Entry) (id : ℕ) → P (Far k ∷ q) → IsNear c con.first k.at → k.call
        ≡ Reply near id bytes
        → awaits (far_of q) ≡ Some (record { from = near; id = id }) → (a : RepliesAtOnce (far_of q) k.at id bytes)
        → Replied q k id
    replied q k id p close call awaited a =
        let same : a.reply ≡ m = one_message bytes a.reply m a.spells spells in
        let id_there : id ≡ con.id = sym a.id_is ∙ (ap (λ (z : Message). z.id) same ∙ id_is) in
        let of : IsOf a.to_what (record { from = near; id = id }) =
        latest_is (far_of q) k.at a.to_what _ awaited a.latest in
        record {
          call = call;
          awaited = awaited;
          at_once = a;
          id_there = id_there;
          of = of;
          con_there = to_a_con q k id p close a.to_what of id_there a.latest;
        }

    replies_to : (q : List Hop) (k : Entry) (id : ℕ) → P (Far k ∷ q) → Replied q k id → IsNear c con.first k.at
        → R q (Far k)
    replies_to q k id p r close =
        record {
          call = r.call ∙ ap (λ (i : ℕ). Reply near i bytes) r.id_there;
          to_it = last_is k.at r.at_once.to_what r.of.from_is (r.of.id_is ∙ r.id_there) close q
              (down q (Far k) p) r.at_once.latest;
        }

    given : (q : List Hop) (k : Entry) → P (Far k ∷ q) → k.at ≤ c.far now → c.far now ≤ k.at + max_latency
        → (r : ReplyOut (far_of q) k (record { to = near; bytes = bytes })) → R q (Far k)
    given q k p before after r =
        let close = close_to k.at before after in
        replies_to q k r.id p (replied q k r.id p close r.call r.awaited (p.law.far_replies.0 near r.id bytes r.call))
        close

    -- a stored reply
    stored_again : (q : List Hop) (k : Entry) → P (Far k ∷ q) → c.far now ≤ k.at + max_latency
        → (r : StoredOut (far_of q) k (record { to = near; bytes = bytes })) → r.message.id ≡ m.id → Sometime R q
    stored_again q k p after r is =
        by_suffix P (λ t h. OnFar Gives h) R down at_place q (down q (Far k) p)
        (Sometime_of_Ever _ q (to_far _ q (by_clock other _ (far_of q) k.at p.law.far_law.1 p.law.far_law.0.time
        (since_young other k.at near r.message.id _ (far_of q) p.law.far_law.1 r.given r.old))))
      where
        Gives : Entry → Type 0
        Gives b = ((reply_in near r.message.id b.call ≡ Some bytes) × (k.at ≤ b.at + exchange_lifetime)) × (b.at ≤ k.at)

        came_again : Meanwhile c k.at (near_of q) (λ when. BegunAs far r.bytes r.message.id when (near_of q))
        came_again = begun_as c one other near far q k r.bytes p.law r.call r.message r.spells r.kind

        here : CanArrive c con.first k.at
        here =
            let d = this_con q r.bytes r.message.id (c.near came_again.instant) (down q (Far k) p) came_again.so
            (is ∙ id_is)
            (lately came_again.instant k.at came_again.shown after) in
            record { instant = came_again.instant; shown = came_again.shown; from = d.0; till = d.1 }

        at_place : (t : List Hop) (h : Hop) → P (h ∷ t) → OnFar Gives h → R t h
        at_place t (Near b) w z = absurd z
        at_place t (Far b) w z =
            let call = replied_call near r.message.id bytes b.call z.0.0 in
            let row = subst (Row other (far_of t) b) call w.law.far_law.0.row in
            let close = near_before c w.law.pace con.first b.at k.at here z.1 z.0.1 in
            replies_to t b r.message.id w (replied t b r.message.id w close call row.0
            (w.law.far_replies.0 near r.message.id bytes call)) close

    -- it is no Reset of a CON that was rejected: this one isn't
    not_rejected : (q : List Hop) (k : Entry) → P (Far k ∷ q) → c.far now ≤ k.at + max_latency
        → ResetOut k (record { to = near; bytes = bytes }) → ⊥
    not_rejected q k p after r = ⊎_elim faulty read r.shows
      where
        id_there : r.id ≡ con.id
        id_there = sym (reset_id m r.id (subst (λ (y : List ℕ). Spells y m) (ap (λ (y : Packet). y.bytes) r.is) spells))
            ∙ id_is

        arrived : Meanwhile c k.at (near_of q) (λ when. Sometime (SentSo far r.bytes when) (near_of q))
        arrived = sent_so c one other near far q k r.bytes p.law r.call

        faulty : Shows r.bytes (Faulted Con r.id) → ⊥
        faulty h = forget ⊥ (near_of q) (Ever_of_Sometime _ (λ e. ⊥) (λ t e z. inl z) (near_of q)
            (by_suffix (Lawful one) (SentSo far r.bytes (c.near arrived.instant)) (λ t e. ⊥)
            (λ t e l. record { law = l.law.1; replies = l.replies.1 })
            (λ t e l s. ⊎_elim
            (λ z. (let a = one_arrival r.bytes (Whole z.0) z.1 in
            let b = one_arrival r.bytes (Faulted Con r.id) h in cc (a, b)))
            (λ z. no_fault r.bytes z.0 r.id z.1 h)
            (sent_what one t e (record { to = far; bytes = r.bytes }) l.law l.replies s.goes)) (near_of q)
            (record { law = p.law.near_law; replies = p.law.near_replies }) arrived.so))

        read : (n : Message) × Shows r.bytes (Whole n) × (n.kind ≡ Con) × (n.id ≡ r.id) → ⊥
        read n =
            let b : Meanwhile c k.at (near_of q) (λ when. BegunAs far r.bytes n.0.id when (near_of q)) =
            begun_as c one other near far q k r.bytes p.law r.call n.0 n.1 n.2 in
            let same : b.so.con ≡ as_begun con = same_con q r.bytes n.0.id (c.near b.instant) (down q (Far k) p) b.so
            (n.3 ∙ id_there) (lately b.instant k.at b.shown after) in
            let bytes_are : con.bytes ≡ r.bytes = sym (ap (λ (y : Open). y.bytes) same) ∙ b.so.bytes_are in
            let message_is : told.message ≡ n.0 = one_message r.bytes told.message n.0
            (subst (λ (y : List ℕ). Spells y told.message) bytes_are told.spells) n.1 in
            let code_is : role_of told.message.code
            ≡ role_of n.0.code = ap (λ (y : Message). role_of y.code) message_is in
            let class = rejected_class other (far_of q) k (record { from = near; message = n.0 })
            (sorts_as other (far_of q) k near r.bytes n.0 p.law.far_law.0 r.call n.1) r.answer in
            ⊎_elim (λ a. ⊎_elim (λ d. cc (a, d, code_is)) (λ d. cc (a, d, code_is)) class)
            (λ a. ⊎_elim (λ d. cc (a, d, code_is)) (λ d. cc (a, d, code_is)) class) told.class

    gave : (q : List Hop) (h : Hop) → P (h ∷ q) → OnFar (GaveOut near bytes (c.far now)) h → Sometime R (h ∷ q)
    gave q (Near k) p g = absurd g
    gave q (Far k) p g = out (goes_out other (far_of q) k packet p.law.far_law g.out)
      where
        packet : Packet
        packet = record { to = near; bytes = bytes }

        not_con_out : (d : Open) → (s : SpellsCon d) → packet ≡ record { to = d.to; bytes = d.bytes }
            → Sometime R (Far k ∷ q)
        not_con_out d s is =
            let same : s.0 ≡ m = one_message bytes s.0 m
            (subst (λ (y : List ℕ). Spells y s.0) (sym (ap (λ (y : Packet). y.bytes) is)) s.1) spells in
            let kind : s.0.kind ≡ m.kind = ap (λ (y : Message). y.kind) same in
            let con_is = s.2 in absurd (cc (kind, con_is, rst))

        stored_id : (r : StoredOut (far_of q) k packet) → r.message.id ≡ m.id
        stored_id r =
            let a : SpellsReply r.message.id bytes = stored_reply near r.message.id bytes (far_of q) p.law.far_replies.1
            (Ever_of_Since _ _ (far_of q) r.given) in
            sym a.id_is ∙ ap (λ (y : Message). y.id) (one_message bytes a.reply m a.spells spells)

        out : GoesOut (far_of q) k packet → Sometime R (Far k ∷ q)
        out (first r) = not_con_out r.con (spelled_begun other (k ∷ far_of q) r.con p.law.far_law (inl r.begins)) r.is
        out (copy r) = not_con_out r.con (spelled_begun other (k ∷ far_of q) r.con p.law.far_law (inr r.begun_before))
            r.is
        out (plain r) = let same : with_head Non r.id r.content
            ≡ m = one_message bytes (with_head Non r.id r.content) m r.spells spells in
            let kind : Non ≡ m.kind = ap (λ (y : Message). y.kind) same in absurd (cc (kind, rst))
        out (reply r) = inl (given q k p g.from g.till r)
        out (stored r) = inr (stored_again q k p g.till r (stored_id r))
        out (reset r) = absurd (not_rejected q k p g.till r)

module _ (c : Clocks) (one other : Setup) (near far : Endpoint) (whole : List Hop) (x : Entry) (con : Open)
    (all_law : ChannelLaw c one other near far (Near x ∷ whole)) (to_is : con.to ≡ far) (told : IsTold con.bytes) where
  reset_replied : (h : HearsReset con (near_of whole) x) → Sometime (OnFarThen (RepliesTo c near con h.bytes)) whole
  reset_replied h =
      let row : Row one (near_of whole) x (Receive con.to h.bytes) =
      subst (Row one (near_of whole) x) h.call all_law.near_law.0.row in
      let r : HeardReset h.bytes con.id =
      arrived_reset one (near_of whole) x con.to h.bytes row.0 con.id row.1 row.2 h.answer in
      let came : Meanwhile (turned c) x.at (far_of whole) (λ when. Ever (OnFar (GaveOut near h.bytes when)) whole) =
      all_law.fair.0 h.bytes (h.call ∙ ap (λ (f : Endpoint). Receive f h.bytes) to_is) in
      Sometime_of_Sometime (λ q k. Sometime (OnFarThen (RepliesTo c near con h.bytes)) (k ∷ q))
      (OnFarThen (RepliesTo c near con h.bytes)) (λ q k z. z) whole
      (by_suffix (Part c one other near far whole) (λ q k. OnFar (GaveOut near h.bytes (c.far came.instant)) k)
      (λ q k. Sometime (OnFarThen (RepliesTo c near con h.bytes)) (k ∷ q))
      (down c one other near far whole x con all_law to_is h.is_outstanding told h.young came.instant came.shown)
      (gave c one other near far whole x con all_law to_is h.is_outstanding told h.young came.instant came.shown
      r.message
      r.kind r.id_is h.bytes r.spells) whole
      (record { law = earlier c one other near far whole (Near x) all_law; later = []; is = refl })
      (Sometime_of_Ever _ whole came.so))

pub resets_meant : (c : Clocks) (one other : Setup) (near far : Endpoint) (all : List Hop)
    → ChannelLaw c one other near far all → ResetsMeant c near far all
resets_meant c one other near far all law =
    each_hop c one other near far _ (λ past h l x con is to_is told k. reset_replied c one other near far past x con
    (subst (λ (y : Hop). ChannelLaw c one other near far (y ∷ past)) is l) to_is told k) all law
