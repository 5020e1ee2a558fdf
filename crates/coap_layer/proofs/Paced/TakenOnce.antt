-- What is taken of a CON: that very CON, and once.
use Rattle.std.proofs.Common.{◌-◌, ◌≡◌, ◌⊎◌, inl, inr, ⊎_elim, ℕ, ◌+◌, ◌≤◌, ◌<◌, true, Some, List, [], ◌∷◌}
use Rattle.std.proofs.Common.{refl, ap, sym, ◌∙◌, subst, arith, append_assoc, ◌++◌}
use Rattle.std.proofs.lemmas.Bool.{cases_lt}
use Rattle.coap_types.specs.Past.{Ever, Always}
use Rattle.coap_types.proofs.Facts.Traces.{Ever_map, Ever_by_law}
use Rattle.coap_types.specs.declared.endpoint.Endpoint.{Endpoint}
use Rattle.coap_types.specs.declared.transmission.TheConstants.{EXCHANGE_LIFETIME_MS as exchange_lifetime}
use Rattle.coap_types.specs.declared.transmission.TheConstants.{ID_REUSE_AFTER_MS as id_reuse_after}
use Rattle.coap_types.specs.declared.transmission.TheConstants.{LAST_ARRIVAL_MS as last_arrival}
use Rattle.coap_layer.specs.Channel.{HandedBy, Hop, Near, Far, near_of, far_of, OnFar, BegunAs}
use Rattle.coap_layer.specs.Clocks.{Clocks, KeepPace}
use Rattle.coap_layer.specs.Machine.Calls.{IsBegun}
use Rattle.coap_layer.specs.Paced.{Meanwhile, ChannelLaw, CanArrive, Takes, HandsUpAs, TakenOnce, OnlyThatCon}
use Rattle.coap_layer.specs.Paced.{HandedOnce}
use Rattle.coap_layer.specs.Rows.{LayerLaw}
use Rattle.coap_layer.specs.Trace.{Setup, Receive, Entry}
use Rattle.coap_layer.specs.Words.{Incoming, handed, hands_up, HandsUpSince, Open}
use Rattle.coap_layer.proofs.Between.WhatIsTaken.{up_by}
use Rattle.coap_layer.proofs.Arrivals.HandedAsSpelled.{handed_so}
use Rattle.coap_layer.proofs.Arrivals.HandedUpOnce.{up_new}
use Rattle.coap_layer.proofs.Facts.Hops.{far_ever, near_later}
use Rattle.coap_layer.proofs.Numbers.OneEntryForAnId.{SendsPlain, one_con, no_plain}
use Rattle.coap_layer.proofs.Paced.Facts.{earlier, each_hop}
use Rattle.coap_layer.proofs.Paced.Gaps.{far_gap, near_gap}
use Rattle.coap_layer.proofs.Paced.WhatArrivesWasSent.{Came, con_came, non_came, reply_came, came}

-- whenever the far clock shows this moment, the near one is less than 400 s from the CON's first sending
pub record IsNear (c : Clocks) (first at : ℕ) : Type 0 where
  pub after : (i : ℕ) → c.far i ≡ at → c.near i ≤ first + id_reuse_after
  pub before : (i : ℕ) → c.far i ≡ at → first ≤ c.near i + (id_reuse_after - last_arrival)

module _ (c : Clocks) (pace : KeepPace c) (first : ℕ) where
  -- it is so while that can arrive ..
  pub near_then : (at : ℕ) → CanArrive c first at → IsNear c first at
  near_then at t = record {
    after = λ i is.
        (let s = t.shown in let l = t.till in
        let g = near_gap c pace t.instant i 0 (omega arith) (omega (arith, is, s)) in omega (arith, g, l));
    before = λ i is.
        (let s = t.shown in let f = t.from in
        let g = near_gap c pace i t.instant 0 (omega arith) (omega (arith, is, s)) in omega (arith, g, f));
  }

  -- .. and in EXCHANGE_LIFETIME before
  pub near_before : (at then : ℕ) → CanArrive c first then → at ≤ then → then ≤ at + exchange_lifetime
      → IsNear c first at
  near_before at then t early young = record {
    after = λ i is.
        (let s = t.shown in let l = t.till in
        let g = near_gap c pace t.instant i 0 (omega arith) (omega (arith, is, s, early)) in omega (arith, g, l));
    before = λ i is.
        (let s = t.shown in let f = t.from in
        let g = near_gap c pace i t.instant exchange_lifetime (omega arith) (omega (arith, is, s, young)) in
        omega (arith, g, f));
  }

  -- what can arrive at both moments comes at the one while the other is remembered
  pub remembered : (at then : ℕ) → CanArrive c first then → CanArrive c first at → at ≤ then + exchange_lifetime
  remembered at then old new =
      let f = old.from in
      let t = new.till in
      let s = old.shown in
      let u = new.shown in
      let g = far_gap c pace old.instant new.instant last_arrival (omega arith) (omega (arith, f, t)) in
      omega (arith, g, s, u)

  -- what was sent no later than that is shown before what can arrive, can arrive
  pub arrives_before : (at then i : ℕ) → CanArrive c first then → at ≤ then → c.far i ≡ at → first ≤ c.near i
      → CanArrive c first at
  arrives_before at then i t le is from = by (cases_lt i t.instant)
    where
      by : (i < t.instant) ⊎ (t.instant ≤ i) → CanArrive c first at
      by (inl less) =
          let r = pace.near.rises i t.instant (omega (arith, less)) in let l = t.till in
          record { instant = i; shown = is; from = from; till = omega (arith, r, l) }
      by (inr behind) =
          let r = pace.far.rises t.instant i behind in let s = t.shown in
          record { instant = t.instant; shown = omega (arith, r, s, is, le); from = t.from; till = t.till }

-- what is handed up under a CON's Message ID less than 400 s from its first sending is that CON
module _ (c : Clocks) (one other : Setup) (near far : Endpoint) (whole past : List Hop) (x : Entry) (con : Open)
    (near_law : LayerLaw one (near_of whole)) (law : ChannelLaw c one other near far (Far x ∷ past))
    (lift : (P : Entry → Type 0) → Ever P (near_of past) → Ever P (near_of whole))
    (begun : Ever (IsBegun con) (near_of whole)) where
  -- a CON that came is that CON
  pub very_con : (bytes : List ℕ) (id when : ℕ) → (b : BegunAs far bytes id when (near_of past)) → id ≡ con.id
      → con.first ≤ b.con.first + id_reuse_after → b.con.first ≤ con.first + id_reuse_after → b.con ≡ con
  very_con bytes id when b is before after = one_con one (near_of whole) b.con con near_law (lift _ b.begun) begun
      (b.id_is ∙ is) after before

  -- taken: handed up, within 400 s
  pub takes_it : (m : Incoming) → handed x ≡ Some m → m.from ≡ near → m.message.id ≡ con.id → IsNear c con.first x.at
      → Takes c near con x
  takes_it m up place id close = go k.so
    where
      h : HandedBy x m
      h = handed_so other (far_of past) x m law.far_law.0 up

      call : x.call ≡ Receive near h.bytes
      call = h.call ∙ ap (λ (f : Endpoint). Receive f h.bytes) place

      k : Meanwhile c x.at (near_of past) (λ when. Came far h.bytes m.message when (near_of past))
      k = came c one other near far past x h.bytes law call m.message h.spells

      when : ℕ
      when = c.near k.instant

      after : when ≤ con.first + id_reuse_after
      after = close.after k.instant k.shown

      before : con.first ≤ when + (id_reuse_after - last_arrival)
      before = close.before k.instant k.shown

      go : Came far h.bytes m.message when (near_of past) → Takes c near con x
      go (con_came kind b) =
          let same : b.con ≡ con = very_con h.bytes m.message.id when b id (let t = b.till in omega (arith, before, t))
          (let f = b.from in omega (arith, after, f)) in
          let f : b.con.first ≡ con.first = ap (λ (y : Open). y.first) same in
          record {
            call = call ∙ ap (Receive near) (sym b.bytes_are ∙ ap (λ (y : Open). y.bytes) same);
            up = up_by near con.id x m (h.kept kind) place id;
            then = record {
              instant = k.instant;
              shown = k.shown;
              from = let l = b.from in omega (arith, l, f);
              till = let l = b.till in omega (arith, l, f);
            };
          }
      go (non_came kind at p from till) =
          absurd (no_plain one (near_of whole) con at near_law begun
          (subst (λ (i : ℕ). Ever (SendsPlain i at) (near_of whole)) id (lift _ p)) (omega (arith, before, till))
          (omega (arith, after, from)))
      go (reply_came (inl kind)) = absurd (⊎_elim (λ a. cc (a, kind)) (λ a. cc (a, kind)) h.kind)
      go (reply_came (inr kind)) = absurd (⊎_elim (λ a. cc (a, kind)) (λ a. cc (a, kind)) h.kind)

module _ (c : Clocks) (one other : Setup) (near far : Endpoint) where
  only_in : (con : Open) (whole : List Hop) → LayerLaw one (near_of whole) → Ever (IsBegun con) (near_of whole)
      → (r later : List Hop) → whole ≡ later ++ r → ChannelLaw c one other near far r
      → Always (λ past e. OnFar (HandsUpAs c near con) e → OnFar (Takes c near con) e) r
  only_in con whole near_law begun [] later is law = tt
  only_in con whole near_law begun (Near e ∷ r) later is law = (
    (λ u. absurd u),
    only_in con whole near_law begun r (later ++ Near e ∷ [])
        (is ∙ sym (append_assoc later (Near e ∷ []) r)) (earlier c one other near far r (Near e) law),
  )
  only_in con whole near_law begun (Far x ∷ r) later is law =
      let before : whole ≡ (later ++ Far x ∷ []) ++ r = is ∙ sym (append_assoc later (Far x ∷ []) r) in (
        (λ u.
            takes_it c one other near far whole r x con near_law law
            (λ P k. near_later P whole (later ++ Far x ∷ []) r before k) begun u.message u.up u.from_is u.id_is
            (near_then c law.pace con.first x.at u.then)),
        only_in con whole near_law begun r (later ++ Far x ∷ []) before (earlier c one other near far r (Far x) law),
      )

  pub only_that_con : (all : List Hop) → ChannelLaw c one other near far all → OnlyThatCon c near far all
  only_that_con all law con begun = only_in con all law.near_law begun all [] refl law

  once_here : (con : Open) (past : List Hop) (h : Hop) → ChannelLaw c one other near far (h ∷ past)
      → OnFar (HandsUpAs c near con) h → Ever (OnFar (Takes c near con)) past → ⊥
  once_here con past (Near e) law u t = u
  once_here con past (Far x) law u t = up_new other (far_of past) x u.message law.far_law.0 u.up
      (Ever_map (Takes c near con) (HandsUpSince x.at u.message.from u.message.message.id) (λ y k.
      record {
        up = subst (λ (f : Endpoint). hands_up f u.message.message.id y ≡ true) (sym u.from_is)
            (subst (λ (i : ℕ). hands_up near i y ≡ true) (sym u.id_is) k.up);
        young = remembered c law.pace con.first x.at y.at k.then u.then;
      }) (far_of past) (far_ever _ past t))

  pub taken_once : (all : List Hop) → ChannelLaw c one other near far all → TakenOnce c near all
  taken_once all law con = each_hop c one other near far _ (λ past h l. once_here con past h l) all law

  taken_too : (P Q : Hop → Type 0) (t : List Hop) → Always (λ past e. P e → Q e) t → Ever P t → Ever Q t
  taken_too P Q t law h = Ever_by_law (λ past e. P e → Q e) P Q (λ past e l p. l.0 p) t law h

  both_once : (P Q : Hop → Type 0) (t : List Hop) → Always (λ past e. P e → Q e) t
      → Always (λ past e. P e → Ever Q past → ⊥) t → Always (λ past e. P e → Ever P past → ⊥) t
  both_once P Q [] only once = tt
  both_once P Q (h ∷ past) only once = (
    (λ p k. once.0 p (taken_too P Q past only.1 k)),
    both_once P Q past only.1 once.1,
  )

  pub handed_once : (all : List Hop) → ChannelLaw c one other near far all → HandedOnce c near all
  handed_once all law con begun = both_once (OnFar (HandsUpAs c near con)) (OnFar (Takes c near con)) all
      (only_that_con all law con begun) (taken_once all law con)
