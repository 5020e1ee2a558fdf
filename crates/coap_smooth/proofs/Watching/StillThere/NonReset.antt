-- A Reset that comes under the Message ID of a Non-confirmable message, while that is young, is the reply that the
-- other layer was given to that very message (RFC 7252, sections 4.3 and 4.4).
use Rattle.std.proofs.Common.{◌≡◌, ◌⊎◌, inl, inr, ⊎_elim, ℕ, ◌+◌, ◌≤◌, Some, List, [], ◌∷◌, ◌++◌, refl, ap, sym, ◌∙◌}
use Rattle.std.proofs.Common.{subst, arith, append_assoc}
use Rattle.coap_types.specs.Past.{Ever, Sometime, Always}
use Rattle.coap_types.specs.declared.endpoint.Endpoint.{Endpoint}
use Rattle.coap_types.specs.declared.message.Kind.TheVariants.{Con, Non, Rst}
use Rattle.coap_types.specs.declared.transmission.TheConstants.{EXCHANGE_LIFETIME_MS as exchange_lifetime}
use Rattle.coap_types.specs.declared.transmission.TheConstants.{MAX_LATENCY_MS as max_latency}
use Rattle.coap_types.proofs.Facts.Traces.{Ever_of_Sometime, Ever_of_Since, Sometime_of_Ever, Ever_map, by_suffix}
use Rattle.coap_types.proofs.Facts.Traces.{forget}
use Rattle.coap_codec.specs.Message.{Message, Spells}
use Rattle.coap_codec.proofs.Facts.EveryDatagram.{one_message}
use Rattle.coap_layer.specs.Arrivals.{Faulted, Whole, Shows}
use Rattle.coap_layer.specs.Channel.{HandedBy, Hop, Near, Far, near_of, far_of, OnFar, OnFarThen, GaveOut, IsLatest}
use Rattle.coap_layer.specs.Channel.{RepliesAtOnce, RepliesSo, BegunAs, PlainSent, SentSo, ArrivesAsSent}
use Rattle.coap_layer.specs.OneClock.{ChannelLaw}
use Rattle.coap_layer.specs.Rows.{LayerLaw, Row}
use Rattle.coap_layer.specs.Sends.{IsIn, ReplyOut, StoredOut, ResetOut, SpellsCon, GoesOut, first, copy, plain, reply}
use Rattle.coap_layer.specs.Sends.{stored, reset}
use Rattle.coap_layer.specs.Trace.{Content, with_head, Packet, Receive, Reply, Confirm, Plain, Unmatched, Sent, Becomes}
use Rattle.coap_layer.specs.Trace.{Entry}
use Rattle.coap_layer.specs.Words.{Incoming, handed, Open, begun}
use Rattle.coap_layer.specs.declared.setup.Setup.{Setup}
use Rattle.coap_layer.proofs.Facts.Arrivals.{one_arrival}
use Rattle.coap_layer.proofs.Facts.Hops.{to_far, near_later}
use Rattle.coap_layer.proofs.Facts.Paced.{at_once, once_earlier as earlier}
use Rattle.coap_layer.proofs.Facts.Laws.{begins_of, begun_as, each_goes_out, handed_spelled, nons_sent, spelled_begun}
use Rattle.coap_layer.proofs.Facts.Sendings.{some_in}
use Rattle.coap_smooth.proofs.Watching.StillThere.RepliesFed.{Gives}
use Rattle.coap_smooth.proofs.Watching.StillThere.ResetSays.{HeardReset, reset_id, no_fault, spelled_reply, latest_of}
use Rattle.coap_smooth.proofs.Watching.StillThere.ResetSays.{sent_what, arrived_reset, same_entry}

record Lawful (setup : Setup) (t : List Entry) : Type 0 where
  law : LayerLaw setup t
  replies : Always RepliesSo t

-- the law of what came before, and that it came before
record Part (one other : Setup) (near far : Endpoint) (whole r : List Hop) : Type 0 where
  law : ChannelLaw one other near far r
  later : List Hop
  is : whole ≡ later ++ r

-- what two layers promise: what arrives was sent by one of the rows
abbrev pub AllSent : Type 0
AllSent = (one other : Setup) (near far : Endpoint) (all : List Hop) → ChannelLaw one other near far all
    → ArrivesAsSent near far all

-- the entry sends this content in a NON
abbrev pub IsPlain : Content → Entry → Type 0
IsPlain content e = (to : Endpoint) × (e.call ≡ Plain to content)

abbrev IsConfirmed : Entry → Type 0
IsConfirmed e = (to : Endpoint) × (content : Content) × (word : ℕ) × (e.call ≡ Confirm to content word)

module _ (sent : AllSent) (one other : Setup) (near far : Endpoint) (whole : List Hop) (x : Entry)
    (all_law : ChannelLaw one other near far (Near x ∷ whole)) (content : Content) (id at : ℕ)
    (non : Ever (λ e. (e.answer ≡ Sent id) × (e.at ≡ at) × IsPlain content e) (near_of whole))
    (late : at ≤ x.at) (young : x.at ≤ at + exchange_lifetime) where
  abbrev P : List Hop → Type 0
  P r = Part one other near far whole r

  down : (past : List Hop) (h : Hop) → P (h ∷ past) → P past
  down past h p = record {
    law = earlier one other near far past h p.law;
    later = p.later ++ h ∷ [];
    is = p.is ∙ sym (append_assoc p.later (h ∷ []) past);
  }

  near_law : LayerLaw one (near_of whole)
  near_law = all_law.near_law.1

  lift : (r : List Hop) → P r → (Q : Entry → Type 0) → Ever Q (near_of r) → Ever Q (near_of whole)
  lift r p Q h = near_later Q whole p.later r p.is h

  -- no CON under its Message ID reached the other layer at most 100 s before
  no_con : (q : List Hop) (bytes : List ℕ) (n when : ℕ) → P q → BegunAs far bytes n when (near_of q) → n ≡ id
      → when ≤ x.at → x.at ≤ when + max_latency → ⊥
  no_con q bytes n when p b is before after =
      let f = b.from in
      let t = b.till in
      forget ⊥ (near_of whole)
      (Ever_map (λ e. IsPlain content e × IsConfirmed e) (λ e. ⊥)
      (λ e k. (let u = k.0.1 in let v = k.1.3 in cc (u, v))) (near_of whole)
      (same_entry one id at b.con.first (omega (arith, late, t, after)) (omega (arith, young, f, before))
      (IsPlain content) IsConfirmed (near_of whole) near_law non
      (Ever_map (λ e. begun e ≡ Some b.con)
      (λ e. (e.answer ≡ Sent id) × (e.at ≡ b.con.first) × IsConfirmed e)
      (λ e k. (let z = begins_of e b.con k in (
        z.answer_is ∙ ap (λ i. Sent i) (b.id_is ∙ is),
        sym z.first_is,
        (b.con.to, z.content, z.word, z.call_is),
      ))) (near_of whole) (lift q p (λ e. begun e ≡ Some b.con) b.begun))))

  -- a NON under it that did is this one
  same_non : (q : List Hop) (bytes : List ℕ) (m : Message) (when : ℕ) → P q → Spells bytes m
      → Ever (PlainSent far bytes when) (near_of q) → m.id ≡ id → when ≤ x.at → x.at ≤ when + max_latency
      → m ≡ with_head Non id content
  same_non q bytes m when p spells h is before after =
      let y = some_in (PlainSent far bytes when) (near_of q) h in
      let s = y.2 in
      let f = s.from in
      let t = s.till in
      let whole_is : m ≡ with_head Non s.goes.id s.goes.content =
      one_message bytes m (with_head Non s.goes.id s.goes.content) spells s.goes.spells in
      let number : s.goes.id ≡ id = sym (ap (λ (z : Message). z.id) whole_is) ∙ is in
      let both = same_entry one id at y.0.at (omega (arith, late, t, after)) (omega (arith, young, f, before))
      (IsPlain content) (λ e. e ≡ y.0) (near_of whole) near_law non
      (Ever_map (λ e. e ≡ y.0) (λ e. (e.answer ≡ Sent id) × (e.at ≡ y.0.at) × (e ≡ y.0))
      (λ e k. (
        ap (λ (z : Entry). z.answer) k ∙ (s.goes.answer ∙ ap (λ i. Sent i) number),
        ap (λ (z : Entry). z.at) k,
        k,
      )) (near_of whole) (lift q p (λ e. e ≡ y.0) y.1)) in
      let contents : s.goes.content ≡ content =
      forget (s.goes.content ≡ content) (near_of whole)
      (Ever_map (λ e. IsPlain content e × (e ≡ y.0)) (λ e. s.goes.content ≡ content)
      (λ e k. (let u = sym (ap (λ (z : Entry). z.call) k.1 ∙ s.goes.call) ∙ k.0.1 in cc u)) (near_of whole) both) in
      whole_is ∙ (ap (λ i. with_head Non i s.goes.content) number ∙ ap (λ c. with_head Non id c) contents)

  -- it is the message that was handed up
  abbrev pub IsIt : Incoming → Type 0
  IsIt up = (up.from ≡ near) × (up.message ≡ with_head Non id content)

  module _ (m : Message) (rst : m.kind ≡ Rst) (id_is : m.id ≡ id) (bytes : List ℕ)
      (spells : Spells bytes m) where
    abbrev R : List Hop → Hop → Type 0
    R = OnFarThen (Gives near id bytes IsIt)

    up_is : (q : List Hop) (at_k : ℕ) (n : ℕ) → P q → at_k ≤ x.at → x.at ≤ at_k + max_latency → (up : Incoming)
        → (up.from ≡ near) × (up.message.id ≡ n) → n ≡ id → IsLatest (far_of q) at_k up
        → up.message ≡ with_head Non id content
    up_is q at_k n p before after up of number latest =
        forget W q (Ever_of_Sometime _ (λ h. W) (λ t h z. inl z) q
        (by_suffix P (λ t h. OnFar Up h) (λ t h. W) down at_place q p
        (Sometime_of_Ever _ q (to_far _ q (Ever_of_Since _ _ (far_of q) latest)))))
      where
        W : Type 0
        W = up.message ≡ with_head Non id content

        Up : Entry → Type 0
        Up y = (handed y ≡ Some up) × (y.at ≡ at_k)

        at_place : (t : List Hop) (h : Hop) → P (h ∷ t) → OnFar Up h → W
        at_place t (Near y) w z = absurd z
        at_place t (Far y) w z = go u.kind
          where
            u : HandedBy y up
            u = (handed_spelled other (y ∷ far_of t) w.law.far_law).0 up z.0

            call : y.call ≡ Receive near u.bytes
            call = u.call ∙ ap (λ (f : Endpoint). Receive f u.bytes) of.0

            go : (up.message.kind ≡ Con) ⊎ (up.message.kind ≡ Non) → W
            go (inl con) =
                let here = z.1 in
                absurd (no_con t u.bytes up.message.id y.at (down t (Far y) w)
                (begun_as one other near far t y u.bytes up.message w.law call u.spells con) (of.1 ∙ number)
                (omega (arith, here, before)) (omega (arith, here, after)))
            go (inr plain_kind) =
                let here = z.1 in
                same_non t u.bytes up.message y.at (down t (Far y) w) u.spells
                ((nons_sent one other near far (Far y ∷ t) w.law).0 y u.bytes up.message refl call u.spells plain_kind)
                (of.1 ∙ number) (omega (arith, here, before)) (omega (arith, here, after))

    given : (q : List Hop) (k : Entry) → P (Far k ∷ q) → k.at ≤ x.at → x.at ≤ k.at + max_latency
        → (r : ReplyOut (far_of q) k (record { to = near; bytes = bytes })) → R q (Far k)
    given q k p before after r =
        let a : RepliesAtOnce (far_of q) k.at r.id bytes = p.law.far_replies.0 near r.id bytes r.call in
        let same : a.reply ≡ m = one_message bytes a.reply m a.spells spells in
        let number : r.id ≡ id = sym a.id_is ∙ (ap (λ (z : Message). z.id) same ∙ id_is) in
        let of = latest_of (far_of q) k.at a.to_what (record { from = near; id = r.id }) r.awaited a.latest in
        let some = r.awaited in (
          a.to_what,
          (of.0, up_is q k.at r.id (down q (Far k) p) before after a.to_what of number a.latest),
          record {
            call = r.call ∙ ap (λ (i : ℕ). Reply near i bytes) number;
            awaited = λ none. cc (some, none);
            latest = a.latest;
          },
        )

    -- no stored reply to a CON
    not_stored : (q : List Hop) (k : Entry) → P (Far k ∷ q) → k.at ≤ x.at → x.at ≤ k.at + max_latency
        → StoredOut (far_of q) k (record { to = near; bytes = bytes }) → ⊥
    not_stored q k p before after r =
        let a = spelled_reply near r.message.id bytes (far_of q) p.law.far_replies.1
        (Ever_of_Since _ _ (far_of q) r.given) in
        let number : r.message.id ≡ id =
        sym a.id_is ∙ (ap (λ (y : Message). y.id) (one_message bytes a.message m a.spells spells) ∙ id_is) in
        no_con q r.bytes r.message.id k.at (down q (Far k) p)
        (begun_as one other near far q k r.bytes r.message p.law r.call r.spells r.kind) number before after

    -- .. and no Reset of a CON that was rejected
    not_rejected : (q : List Hop) (k : Entry) → P (Far k ∷ q) → k.at ≤ x.at → x.at ≤ k.at + max_latency
        → ResetOut k (record { to = near; bytes = bytes }) → ⊥
    not_rejected q k p before after r = ⊎_elim faulty read r.shows
      where
        id_there : r.id ≡ id
        id_there = sym (reset_id m r.id (subst (λ (y : List ℕ). Spells y m) (ap (λ (y : Packet). y.bytes) r.is) spells))
            ∙ id_is

        faulty : Shows r.bytes (Faulted Con r.id) → ⊥
        faulty h = forget ⊥ (near_of q) (Ever_of_Sometime _ (λ e. ⊥) (λ t e z. inl z) (near_of q)
            (by_suffix (Lawful one) (SentSo far r.bytes k.at) (λ t e. ⊥)
            (λ t e l. record { law = l.law.1; replies = l.replies.1 })
            (λ t e l s. ⊎_elim
            (λ z. (let a = one_arrival r.bytes (Whole z.0) z.1 in
            let b = one_arrival r.bytes (Faulted Con r.id) h in cc (a, b)))
            (λ z. no_fault r.bytes z.0 r.id z.1 h)
            (sent_what one t e (record { to = far; bytes = r.bytes }) l.law l.replies s.goes)) (near_of q)
            (record { law = p.law.near_law; replies = p.law.near_replies })
            ((sent one other near far (Far k ∷ q) p.law).0 k r.bytes refl r.call)))

        read : (n : Message) × Shows r.bytes (Whole n) × (n.kind ≡ Con) × (n.id ≡ r.id) → ⊥
        read n =
            no_con q r.bytes n.0.id k.at (down q (Far k) p)
            (begun_as one other near far q k r.bytes n.0 p.law r.call n.1 n.2) (n.3 ∙ id_there) before after

    gave : (q : List Hop) (h : Hop) → P (h ∷ q) → OnFar (GaveOut near bytes x.at) h → R q h
    gave q (Near k) p g = absurd g
    gave q (Far k) p g = out (each_goes_out_at g.out)
      where
        packet : Packet
        packet = record { to = near; bytes = bytes }

        each_goes_out_at : IsIn packet k.out → GoesOut (far_of q) k packet
        each_goes_out_at h = (each_goes_out other (k ∷ far_of q) p.law.far_law).0 packet h

        not_con_out : (c : Open) → SpellsCon c → packet ≡ record { to = c.to; bytes = c.bytes } → ⊥
        not_con_out c s is =
            let same : s.0 ≡ m = one_message bytes s.0 m
            (subst (λ (y : List ℕ). Spells y s.0) (sym (ap (λ (y : Packet). y.bytes) is)) s.1) spells in
            let kind : s.0.kind ≡ m.kind = ap (λ (y : Message). y.kind) same in
            let con_is = s.2 in cc (kind, con_is, rst)

        out : GoesOut (far_of q) k packet → R q (Far k)
        out (first r) = absurd (not_con_out r.con (spelled_begun other (k ∷ far_of q) r.con p.law.far_law
            (inl r.begins)) r.is)
        out (copy r) =
            absurd (not_con_out r.con (spelled_begun other (k ∷ far_of q) r.con p.law.far_law (inr r.begun_before))
            r.is)
        out (plain r) =
            let same : with_head Non r.id r.content ≡ m = one_message bytes (with_head Non r.id r.content) m r.spells
            spells in
            let kind : Non ≡ m.kind = ap (λ (y : Message). y.kind) same in absurd (cc (kind, rst))
        out (reply r) = given q k p g.from g.till r
        out (stored r) = absurd (not_stored q k p g.from g.till r)
        out (reset r) = absurd (not_rejected q k p g.from g.till r)

  -- the Reset, and where it was given
  pub record IsReplied : Type 0 where
    pub bytes : List ℕ
    pub message : Message
    pub spells : Spells bytes message
    pub kind : message.kind ≡ Rst
    pub given_there : Sometime (OnFarThen (Gives near id bytes IsIt)) whole

  pub reset_of_non : (bytes : List ℕ) → x.call ≡ Receive far bytes → x.answer ≡ Becomes (Unmatched id) → IsReplied
  reset_of_non bytes call answer =
      let row : Row one (near_of whole) x (Receive far bytes) =
      subst (Row one (near_of whole) x) call all_law.near_law.0.row in
      let r : HeardReset bytes id =
      arrived_reset one (near_of whole) x far bytes row.0 id row.1 row.2 answer in
      record {
        bytes = bytes;
        message = r.message;
        spells = r.spells;
        kind = r.kind;
        given_there = by_suffix P (λ q k. OnFar (GaveOut near bytes x.at) k) (OnFarThen (Gives near id bytes IsIt)) down
            (gave r.message r.kind r.id_is bytes r.spells) whole
            (record { law = earlier one other near far whole (Near x) all_law; later = []; is = refl })
            (Sometime_of_Ever _ whole (at_once x.at (far_of whole)
            (λ when. Ever (OnFar (GaveOut near bytes when)) whole)
            (all_law.fair.0 bytes call)));
      }
