-- A CON that is gone where another one begins isn't handed up behind that one.
use Rattle.std.proofs.Common.{◌≡◌, ◌⊎◌, inl, inr, ⊎_elim, ℕ, ◌+◌, ◌≤◌, ◌<◌, Some, None, List, [], ◌∷◌, refl, ap, sym}
use Rattle.std.proofs.Common.{◌∙◌, subst, arith, option_to_list}
use Rattle.std.specs.List.{filter_map, cons_option}
use Rattle.coap_types.specs.Past.{Ever, Sometime, Always}
use Rattle.coap_types.proofs.Facts.Traces.{Ever_map, Ever_append, Ever_of_Sometime, Sometime_map, by_suffix, forget}
use Rattle.coap_types.specs.declared.endpoint.Endpoint.{Endpoint}
use Rattle.coap_types.specs.declared.message.Kind.TheVariants.{Con}
use Rattle.coap_types.specs.declared.transmission.TheConstants.{LAST_ARRIVAL_MS as last_arrival}
use Rattle.coap_types.specs.declared.transmission.TheConstants.{MAX_LATENCY_MS as max_latency}
use Rattle.coap_layer.specs.Channel.{Hop, Near, Far, near_of, OnFar, RepliesSo, SentSo}
use Rattle.coap_layer.specs.Clocks.{Clocks, max_gain}
use Rattle.coap_layer.specs.Machine.Calls.{IsBegun}
use Rattle.coap_layer.specs.Paced.{Meanwhile, ChannelLaw, Takes, HandsUpAs, Follows, OnNearAfter, ConsApart}
use Rattle.coap_layer.specs.Rows.{LayerLaw}
use Rattle.coap_layer.specs.Sends.{as_begun, IsOpen, SendsIt, SpellsCon}
use Rattle.coap_layer.specs.Trace.{Setup, Packet, Entry}
use Rattle.coap_layer.specs.Words.{clock, Open, left_by, begun, outstanding}
use Rattle.coap_layer.proofs.Between.WhatComesByType.{Comes, a_con, a_non, a_reply, a_stored, a_reset, comes}
use Rattle.coap_layer.proofs.Between.WhatComesByType.{spelled_begun}
use Rattle.coap_layer.proofs.Copies.CopiesInTime.{left_same, begun_fresh, one_outstanding}
use Rattle.coap_layer.proofs.Copies.WhatIsOpen.{copied_by, place_same}
use Rattle.coap_layer.proofs.Numbers.OneEntryForAnId.{begins_of, begun_once, one_con}
use Rattle.coap_layer.proofs.Paced.Facts.{each_hop}
use Rattle.coap_layer.proofs.Paced.Gaps.{near_gap}
use Rattle.coap_layer.proofs.Paced.TakenOnce.{only_that_con, taken_once}
use Rattle.coap_layer.proofs.Paced.WhatArrivesWasSent.{sent_so}

-- of two things that happened, each seen with its past, one was first, or they are one
first_of : {E : Type 0} (A B : List E → E → Type 0) (t : List E) → Sometime A t → Sometime B t
    → Sometime (λ p e. A p e × B p e) t ⊎ (Sometime (λ p e. B p e × Sometime A p) t
    ⊎ Sometime (λ p e. A p e × Sometime B p) t)
first_of A B [] a b = absurd a
first_of A B (e ∷ t) (inl a) (inl b) = inl (inl (a, b))
first_of A B (e ∷ t) (inl a) (inr b) = inr (inr (inl (a, b)))
first_of A B (e ∷ t) (inr a) (inl b) = inr (inl (inl (b, a)))
first_of A B (e ∷ t) (inr a) (inr b) = ⊎_elim (λ x. inl (inr x))
    (λ y. ⊎_elim (λ x. inr (inl (inr x))) (λ x. inr (inr (inr x))) y) (first_of A B t a b)

nowhere : {E : Type 0} (L : List E → Type 0) (P : List E → E → Type 0) → ((p : List E) (e : E) → L (e ∷ p) → L p)
    → ((p : List E) (e : E) → L (e ∷ p) → P p e → ⊥) → (t : List E) → L t → Sometime P t → ⊥
nowhere L P down f [] law h = h
nowhere L P down f (e ∷ p) law (inl h) = f p e law h
nowhere L P down f (e ∷ p) law (inr h) = nowhere L P down f p (down p e law) h

-- the new one begins where the old one was begun
abbrev Order : Open → Open → List Entry → Entry → Type 0
Order old new p e = (begun e ≡ Some new) × Ever (IsBegun old) p

first_begun : (old new : Open) (t : List Entry) → Sometime (Order old new) t → Ever (IsBegun old) t
first_begun old new t h = Ever_of_Sometime (Order old new) (IsBegun old) (λ p e z. inr z.1) t h

-- where another CON to its place was begun since, it isn't outstanding
not_open : (setup : Setup) (old new : Open) (t : List Entry) → old.to ≡ new.to → LayerLaw setup t
    → Sometime (Order old new) t
    → IsOpen t old → ⊥
not_open setup old new [] to law h o = h
not_open setup old new (e ∷ past) to law h o =
    ⊎_elim (before h (λ k i. not_open setup old new past to law.1 k i)) now
    (Ever_append (λ y. as_begun y ≡ old) (filter_map (left_by e) (outstanding past)) (option_to_list (begun e)) o)
  where
    known : Sometime (Order old new) (e ∷ past) → Ever (IsBegun old) past
    known (inl k) = k.1
    known (inr k) = first_begun old new past k

    now : Ever (λ y. as_begun y ≡ old) (option_to_list (begun e)) → ⊥
    now k = begun_once setup past e old law (is (begun e) refl k) (known h)
      where
        is : (b : _) → begun e ≡ b → Ever (λ y. as_begun y ≡ old) (option_to_list b) → begun e ≡ Some old
        is (Some y) s (inl z) =
            let f = begun_fresh e.at e.call e.answer y s in
            s ∙ (ap (λ (n : ℕ). Some (record y { last = n })) (f.1 ∙ sym f.0) ∙ ap (λ (c : Open). Some c) z)
        is (Some y) s (inr z) = absurd z
        is None s z = absurd z

    still : (cs : List Open) → Ever (λ y. as_begun y ≡ old) (filter_map (left_by e) cs)
        → Ever (λ y. as_begun y ≡ old) cs
    still [] k = absurd k
    still (c ∷ cs) k = go (left_by e c) refl k (λ z. still cs z)
      where
        go : (l : _) → left_by e c ≡ l → Ever (λ y. as_begun y ≡ old) (cons_option l (filter_map (left_by e) cs))
            → (Ever (λ y. as_begun y ≡ old) (filter_map (left_by e) cs) → Ever (λ y. as_begun y ≡ old) cs)
            → Ever (λ y. as_begun y ≡ old) (c ∷ cs)
        go None is z r = inr (r z)
        go (Some d) is (inl z) r = inl (left_same e c d is ∙ z)
        go (Some d) is (inr z) r = inr (r z)

    before : Sometime (Order old new) (e ∷ past) → (Sometime (Order old new) past → IsOpen past old → ⊥)
        → Ever (λ y. as_begun y ≡ old) (filter_map (left_by e) (outstanding past)) → ⊥
    before (inl k) f z =
        (one_outstanding setup (e ∷ past) law).0 new k.0
        (Ever_map _ _ (λ (y : Open) w. place_same y.to new.to (ap (λ (c : Open). c.to) w ∙ to)) (outstanding past)
        (still (outstanding past) z))
    before (inr k) f z = f k (still (outstanding past) z)

-- so it isn't sent any more, and not by that entry
not_sent : (setup : Setup) (old new : Open) (past : List Entry) (e : Entry) → old.to ≡ new.to
    → LayerLaw setup (e ∷ past)
    → Sometime (Order old new) past → SendsIt old past e → ⊥
not_sent setup old new past e to law h (inl b) = begun_once setup past e old law b (first_begun old new past h)
not_sent setup old new past e to law h (inr o) = not_open setup old new past to law.1 h o.0

not_both : (setup : Setup) (old new : Open) (past : List Entry) (e : Entry) → LayerLaw setup (e ∷ past)
    → Order old new past e
    → SendsIt old past e → ⊥
not_both setup old new past e law k (inl b) = begun_once setup past e old law b k.1
not_both setup old new past e law k (inr o) = let c = copied_by e.call e.answer old.to old.id o.1 in let s =
    (begins_of e new k.0).answer_is in cc (c, s)

-- a sending of it, at most 100,000 ms before
abbrev SentBy : Open → ℕ → List Entry → Entry → Type 0
SentBy con when p e = SendsIt con p e × (when ≤ e.at + max_latency)

-- what was begun, was so no later than the clock
pub begun_by_clock : (setup : Setup) (con : Open) (t : List Entry) → LayerLaw setup t → Ever (IsBegun con) t
    → con.first ≤ clock t
begun_by_clock setup con [] law h = absurd h
begun_by_clock setup con (e ∷ past) law (inl h) = let k = (begins_of e con h).first_is in omega (arith, k)
begun_by_clock setup con (e ∷ past) law (inr h) =
    let k = begun_by_clock setup con past law.1 h in let l = law.0.time in omega (arith, k, l)

module _ (c : Clocks) (one other : Setup) (near far : Endpoint) (old new : Open) where
  -- the part of the near trace, in the whole of it
  record Part (whole t : List Entry) : Type 0 where
    pub law : LayerLaw one t
    pub replies : Always RepliesSo t
    pub begun_there : (d : Open) → Ever (IsBegun d) t → Ever (IsBegun d) whole

  part_back : (whole past : List Entry) (e : Entry) → Part whole (e ∷ past) → Part whole past
  part_back whole past e p = record {
    law = p.law.1;
    replies = p.replies.1;
    begun_there = λ d k. p.begun_there d (inr k);
  }

  -- what arrives as this CON is a sending of it, at most 100,000 ms before
  module _ (past : List Hop) (x : Entry) (law : ChannelLaw c one other near far (Far x ∷ past))
      (begun_old : Ever (IsBegun old) (near_of past)) (t : Takes c near old x) where
    abbrev whole : List Entry
    whole = near_of past

    spelled : SpellsCon old
    spelled = spelled_begun one whole old law.near_law begun_old

    abbrev packet : Packet
    packet = record { to = far; bytes = old.bytes }

    came : Meanwhile c x.at whole (λ when. Sometime (SentSo far old.bytes when) whole)
    came = sent_so c one other near far past x old.bytes law t.call

    abbrev when : ℕ
    when = c.near came.instant

    -- the near clock shows then what it shows while the CON can arrive, give or take 5 s
    after : when ≤ old.first + last_arrival + max_gain
    after =
        let s = came.shown in let u = t.then.shown in let l = t.then.till in
        let g = near_gap c law.pace t.then.instant came.instant 0 (omega arith) (omega (arith, s, u)) in
        omega (arith, g, l)

    before : old.first ≤ when + max_gain
    before =
        let s = came.shown in let u = t.then.shown in let l = t.then.from in
        let g = near_gap c law.pace came.instant t.then.instant 0 (omega arith) (omega (arith, s, u)) in
        omega (arith, g, l)

    here : (p : List Entry) (e : Entry) → Part whole (e ∷ p) → SentSo far old.bytes when p e → SentBy old when p e
    here p e w s = go (comes one p e packet spelled.0 w.law w.replies spelled.1 s.goes)
      where
        con : spelled.0.kind ≡ Con
        con = spelled.2

        go : Comes p e packet spelled.0 → SentBy old when p e
        go (a_con k b) =
            let there = w.begun_there b.con b.begun in
            let same : b.con ≡ old = one_con one whole b.con old law.near_law there begun_old (b.id_is ∙ spelled.3)
            (omega (arith, b.from, b.till, s.from, s.till, after, before))
            (omega (arith, b.from, b.till, s.from, s.till, after, before)) in
            (subst (λ (y : Open). SendsIt y p e) same b.sends, s.till)
        go (a_non k r b) = absurd (cc (k, con))
        go (a_reply (inl k) r a is) = absurd (cc (k, con))
        go (a_reply (inr k) r a is) = absurd (cc (k, con))
        go (a_stored (inl k) r is) = absurd (cc (k, con))
        go (a_stored (inr k) r is) = absurd (cc (k, con))
        go (a_reset k) = absurd (cc (k, con))

    sent_by : Sometime (SentBy old when) whole
    sent_by = by_suffix (Part whole) (SentSo far old.bytes when) (SentBy old when) (part_back whole) here whole
        (record { law = law.near_law; replies = law.near_replies; begun_there = λ d k. k }) came.so

  -- the same, of the near trace alone: all its sendings are too old
  abbrev Late : List Entry → Entry → Type 0
  Late p e = Order old new p e × Always (λ t b. SendsIt old t b → b.at + max_latency < e.at) p

  taken_or_late : (past : List Hop) → Sometime (OnNearAfter (Follows c near old new)) past
      → Ever (OnFar (Takes c near old)) past ⊎ Sometime Late (near_of past)
  taken_or_late [] h = absurd h
  taken_or_late (Near e ∷ past) (inl h) = ⊎_elim (λ k. inl (inr k))
      (λ k. inr (inl ((h.begins, h.begun_before), k))) h.gone
  taken_or_late (Near e ∷ past) (inr h) = ⊎_elim (λ k. inl (inr k)) (λ k. inr (inr k)) (taken_or_late past h)
  taken_or_late (Far e ∷ past) (inl h) = absurd h
  taken_or_late (Far e ∷ past) (inr h) = ⊎_elim (λ k. inl (inr k)) (λ k. inr k) (taken_or_late past h)

  same_place_is : (past : List Hop) → Sometime (OnNearAfter (Follows c near old new)) past → old.to ≡ new.to
  same_place_is past h = forget (old.to ≡ new.to) past
      (Ever_of_Sometime (OnNearAfter (Follows c near old new)) (λ x. old.to ≡ new.to) to_here past h)
    where
      to_here : (p : List Hop) (x : Hop) → OnNearAfter (Follows c near old new) p x
          → Ever (λ y. old.to ≡ new.to) (x ∷ p)
      to_here p (Near e) k = inl k.to_is
      to_here p (Far e) k = absurd k

  old_begun : (past : List Hop) → Sometime (OnNearAfter (Follows c near old new)) past
      → Ever (IsBegun old) (near_of past)
  old_begun [] h = absurd h
  old_begun (Near e ∷ past) (inl h) = inr h.begun_before
  old_begun (Near e ∷ past) (inr h) = inr (old_begun past h)
  old_begun (Far e ∷ past) (inl h) = absurd h
  old_begun (Far e ∷ past) (inr h) = old_begun past h

  never_sent : (past : List Entry) (when : ℕ) → old.to ≡ new.to → new.first ≤ when → LayerLaw one past
      → Sometime (SentBy old when) past → Sometime Late past → ⊥
  never_sent past when to since law sent late =
      ⊎_elim both (λ k. ⊎_elim sent_before sent_after k) (first_of (SentBy old when) Late past sent late)
    where
      down : (p : List Entry) (e : Entry) → LayerLaw one (e ∷ p) → LayerLaw one p
      down p e l = l.1

      both : Sometime (λ p e. SentBy old when p e × Late p e) past → ⊥
      both = nowhere (LayerLaw one) (λ p e. SentBy old when p e × Late p e) down
          (λ p e l k. not_both one old new p e l k.1.0 k.0.0) past law

      sent_after : Sometime (λ p e. SentBy old when p e × Sometime Late p) past → ⊥
      sent_after = nowhere (LayerLaw one) (λ p e. SentBy old when p e × Sometime Late p) down
          (λ p e l k. not_sent one old new p e to l (Sometime_map Late (Order old new) (λ q b z. z.0) p k.1) k.0.0) past
          law

      too_old : (e : Entry) (p : List Entry) → e.at ≤ when
          → Always (λ t b. SendsIt old t b → b.at + max_latency < e.at) p → Sometime (SentBy old when) p → ⊥
      too_old e [] le all k = k
      too_old e (b ∷ p) le all (inl k) = let a = all.0 k.0 in let b = k.1 in omega (arith, a, b, le)
      too_old e (b ∷ p) le all (inr k) = too_old e p le all.1 k

      sent_before : Sometime (λ p e. Late p e × Sometime (SentBy old when) p) past → ⊥
      sent_before = nowhere (LayerLaw one) (λ p e. Late p e × Sometime (SentBy old when) p) down
          (λ p e l k. let f = (begins_of e new k.0.0.0).first_is in too_old e p (omega (arith, f, since)) k.0.1 k.1)
          past law

  new_begun : (past : List Hop) → Sometime (OnNearAfter (Follows c near old new)) past
      → Ever (IsBegun new) (near_of past)
  new_begun [] h = absurd h
  new_begun (Near e ∷ past) (inl h) = inl h.begins
  new_begun (Near e ∷ past) (inr h) = inr (new_begun past h)
  new_begun (Far e ∷ past) (inl h) = absurd h
  new_begun (Far e ∷ past) (inr h) = new_begun past h

  apart_here : (past : List Hop) (h : Hop) → ChannelLaw c one other near far (h ∷ past)
      → Sometime (OnNearAfter (Follows c near old new)) past → OnFar (HandsUpAs c near old) h → ⊥
  apart_here past (Near e) law follows here = here
  apart_here past (Far x) law follows here = ⊎_elim taken late (taken_or_late past follows)
    where
      there : Ever (IsBegun old) (near_of past)
      there = old_begun past follows

      takes : Takes c near old x
      takes = (only_that_con c one other near far (Far x ∷ past) law old there).0 here

      taken : Ever (OnFar (Takes c near old)) past → ⊥
      taken k = (taken_once c one other near far (Far x ∷ past) law old).0 here k

      -- no clock but the near one: it is past the beginning of the new one
      since : new.first ≤ when past x law there takes
      since =
          let a = begun_by_clock one new (near_of past) law.near_law (new_begun past follows) in
          let b = (came past x law there takes).later in
          omega (arith, a, b)

      late : Sometime Late (near_of past) → ⊥
      late k = never_sent (near_of past) (when past x law there takes) (same_place_is past follows) since law.near_law
          (sent_by past x law there takes) k

pub cons_apart : (c : Clocks) (one other : Setup) (near far : Endpoint) (all : List Hop)
    → ChannelLaw c one other near far all → ConsApart c near all
cons_apart c one other near far all law old new =
    each_hop c one other near far _ (λ past h l. apart_here c one other near far old new past h l) all law
