-- Where each CON that is over was taken, and few messages come, a Message ID is free.
use Rattle.coap_layer.specs.Trace.{Setup}
use Rattle.std.proofs.Common.{◌≡◌, ◌⊎◌, inl, inr, ⊎_elim, ℕ, ◌+◌, ◌≤◌, ◌<◌, nat_le, Bool, true, false, Option, Some}
use Rattle.std.proofs.Common.{None, List, [], ◌∷◌, ◌++◌, refl, ap, sym, ◌∙◌, subst, arith, cond, if◌then◌else◌}
use Rattle.std.proofs.lemmas.Bool.{le-leb, leb-true, cases_lt}
use Rattle.coap_types.specs.Past.{Ever, Always}
use Rattle.coap_types.proofs.Facts.Traces.{Ever_map}
use Rattle.coap_types.specs.declared.endpoint.Endpoint.{Endpoint}
use Rattle.coap_types.specs.SameEndpoint.{same_endpoint}
use Rattle.coap_types.specs.declared.transmission.TheConstants.{EXCHANGE_LIFETIME_MS as exchange_lifetime}
use Rattle.coap_layer.specs.Channel.{Hop, Near, Far, near_of, far_of, OnFar, BegunAs, Takes}
use Rattle.coap_layer.specs.OneClock.{ChannelLaw}
use Rattle.coap_layer.specs.Ids.{Issued, latest, NumbersLaw}
use Rattle.coap_layer.specs.Machine.Calls.{IsBegun, IsTaken}
use Rattle.coap_layer.specs.Rows.{LayerLaw}
use Rattle.coap_layer.specs.Sends.{as_begun, SpellsCon}
use Rattle.coap_layer.specs.Taking.{is_then, came, issued_since, ManySince, came_since, OverAreTaken, AreConsFor}
use Rattle.coap_layer.specs.Taking.{IdsAreFree}
use Rattle.coap_layer.specs.Trace.{Answer, Becomes, Nothing, Is, Sent, Busied, NoIds, Idle, Copied, Expired, Gives}
use Rattle.coap_layer.specs.Trace.{Entry}
use Rattle.coap_layer.specs.Words.{clock, Incoming, handed, hands_up, Open, begun, outstanding, issued, issued_by}
use Rattle.coap_layer.specs.Words.{numbers}
use Rattle.coap_layer.proofs.Arrivals.HandedUpOnce.{taken_handed}
use Rattle.coap_layer.proofs.Arrivals.RoomWhenFewCome.{more}
use Rattle.coap_layer.proofs.Between.WhatIsTaken.{kept_by}
use Rattle.coap_layer.proofs.Copies.CopiesInTime.{one_outstanding}
use Rattle.coap_layer.proofs.Copies.WhatIsOpen.{place_same}
use Rattle.coap_layer.proofs.Paced.AtOneClock.{earlier, begun_as}
use Rattle.coap_layer.proofs.ListLemmas.{both}
use Rattle.coap_layer.proofs.Machine.WhatIsIssued.{numbers_law}
use Rattle.coap_layer.proofs.Numbers.HeldIsMany.{held_is_many}
use Rattle.coap_layer.proofs.Numbers.OneEntryForAnId.{begins_of, one_con, begun_once}
use Rattle.coap_layer.proofs.Out.EachGoesOut.{cons_spelled}

-- counts

grows : (u : ℕ) (e : Entry) (past : List Entry) → came_since u past ≤ came_since u (e ∷ past)
grows u e past = go (handed e)
  where
    go : (o : Option Incoming) → came_since u past
        ≤ elim o [
          | Some m ↦ (if nat_le u e.at then 1 + came_since u past else came_since u past)
          | None ↦ came_since u past
        ]
    go None = omega arith
    go (Some m) = more (nat_le u e.at) _ _ (omega arith)

one_came : (u : ℕ) (e : Entry) (past : List Entry) (m : Incoming) → handed e ≡ Some m → u ≤ e.at
    → came_since u (e ∷ past) ≡ 1 + came_since u past
one_came u e past m is le = go (handed e) is
  where
    go : (o : Option Incoming) → o ≡ Some m
        → elim o [
          | Some n ↦ (if nat_le u e.at then 1 + came_since u past else came_since u past)
          | None ↦ came_since u past
        ]
        ≡ 1 + came_since u past
    go None k = absurd (cc k)
    go (Some n) k = ap (λ b. cond b (1 + came_since u past) (came_since u past)) (le-leb u e.at le)

-- what is handed up in two lifetimes
two : (setup : Setup) (u top : ℕ) (t : List Entry) → LayerLaw setup t → clock t ≤ top → top ≤ u + 494001
    → came_since u t ≤ came u t + came (u + 247001) t
two setup u top [] law le till = omega arith
two setup u top (e ∷ past) law le till = go (handed e)
    (two setup u top past law.1 (let a : clock past ≤ e.at = law.0.time in omega (arith, a, le)) till)
  where
    by : (b c d : Bool) → (b ≡ true → (c ≡ true) ⊎ (d ≡ true)) → (x y z : ℕ) → x ≤ y + z
        → cond b (1 + x) x ≤ cond c (1 + y) y + cond d (1 + z) z
    by false true true f x y z k = omega (arith, k)
    by false true false f x y z k = omega (arith, k)
    by false false true f x y z k = omega (arith, k)
    by false false false f x y z k = omega (arith, k)
    by true true true f x y z k = omega (arith, k)
    by true true false f x y z k = omega (arith, k)
    by true false true f x y z k = omega (arith, k)
    by true false false f x y z k = absurd (⊎_elim (λ a. cc a) (λ a. cc a) (f refl))

    which : nat_le u e.at ≡ true → (is_then u e.at ≡ true) ⊎ (is_then (u + 247001) e.at ≡ true)
    which h =
        let from = leb-true u e.at h in
        ⊎_elim (λ late. inr (both _ _ (le-leb (u + 247001) e.at (omega (arith, late)))
        (le-leb e.at (u + 247001 + exchange_lifetime) (omega (arith, le, till)))))
        (λ soon. inl (both _ _ h (le-leb e.at (u + exchange_lifetime) (omega (arith, soon)))))
        (cases_lt (u + 247000) e.at)

    go : (o : Option Incoming) → came_since u past ≤ came u past + came (u + 247001) past
        → elim o [
          | Some m ↦ (if nat_le u e.at then 1 + came_since u past else came_since u past)
          | None ↦ came_since u past
        ]
        ≤ elim o [
          | Some m ↦ (if is_then u e.at then 1 + came u past else came u past)
          | None ↦ came u past
        ]
        + elim o [
          | Some m ↦ (if is_then (u + 247001) e.at then 1 + came (u + 247001) past else came (u + 247001) past)
          | None ↦ came (u + 247001) past
        ]
    go None k = k
    go (Some m) k = by (nat_le u e.at) (is_then u e.at) (is_then (u + 247001) e.at) which _ _ _ k

-- nothing was issued behind the last number
none_since : (setup u : ℕ) (t : List Issued) → NumbersLaw setup t → latest t < u → issued_since u t ≡ 0
none_since setup u [] law h = refl
none_since setup u (g ∷ past) law h = by (nat_le u g.at) refl
    (none_since setup u past law.1 (let a = law.0.time in omega (arith, a, h)))
  where
    by : (b : Bool) → nat_le u g.at ≡ b → issued_since u past ≡ 0
        → (if b then 1 + issued_since u past else issued_since u past) ≡ 0
    by true e k = let le = leb-true u g.at e in absurd (omega (arith, le, h))
    by false e k = k

one_issued : (b : Bool) (n k : ℕ) → n ≤ k → cond b (1 + n) n ≤ k + 1
one_issued true n k le = omega (arith, le)
one_issued false n k le = omega (arith, le)

-- what was taken, was begun before
module _ (one other : Setup) (near far : Endpoint) (whole : List Hop) (con : Open)
    (near_law : LayerLaw one (near_of whole))
    (begun_there : Ever (IsBegun con) (near_of whole)) (spelled : SpellsCon con) where
  pub taken_begun : (r : List Hop) → ((P : Entry → Type 0) → Ever P (near_of r) → Ever P (near_of whole))
      → ChannelLaw one other near far r → Ever (OnFar (Takes near con)) r
      → Ever (IsBegun con) (near_of r)
  taken_begun [] lift law h = absurd h
  taken_begun (Near e ∷ r) lift law (inl h) = absurd h
  taken_begun (Near e ∷ r) lift law (inr h) =
      inr (taken_begun r (λ P k. lift P (inr k)) (earlier one other near far r (Near e) law) h)
  taken_begun (Far x ∷ r) lift law (inr h) =
      taken_begun r (λ P k. lift P k) (earlier one other near far r (Far x) law) h
  taken_begun (Far x ∷ r) lift law (inl t) =
      let b : BegunAs far con.bytes spelled.0.id x.at (near_of r) =
      begun_as one other near far r x con.bytes spelled.0 law t.call spelled.1 spelled.2 in
      let f = t.from in
      let l = t.till in
      let g = b.from in
      let m = b.till in
      let same : b.con ≡ con = one_con one (near_of whole) b.con con near_law (lift (IsBegun b.con) b.begun) begun_there
      (b.id_is ∙ spelled.3) (omega (arith, l, g)) (omega (arith, f, m)) in
      subst (λ (c : Open). Ever (IsBegun c) (near_of r)) same b.begun

-- as many come as were issued, but for one that is not taken yet
data Count (near far : Endpoint) (u : ℕ) (all : List Hop) : Type 0 where
  even : issued_since u (numbers (near_of all)) ≤ came_since u (far_of all) → Count near far u all
  one_out : (con : Open) → Ever (IsBegun con) (near_of all) → con.to ≡ far
      → (Ever (OnFar (Takes near con)) all → ⊥)
      → latest (numbers (near_of all)) ≤ con.first
      → issued_since u (numbers (near_of all)) ≤ came_since u (far_of all) + 1 → Count near far u all

module _ (one other : Setup) (near far : Endpoint) (u : ℕ) where
  -- an entry that has no Message ID
  same : (e : Entry) (past : List Hop) → issued e ≡ [] → Count near far u past → Count near far u (Near e ∷ past)
  same e past is (even le) = even (subst (λ ns. issued_since u (ns ++ numbers (near_of past))
      ≤ came_since u (far_of past)) (sym is) le)
  same e past is (one_out con b to n last le) = one_out con (inr b) to (λ k. ⊎_elim (λ x. x) n k)
      (subst (λ ns. latest (ns ++ numbers (near_of past)) ≤ con.first) (sym is) last)
      (subst (λ ns. issued_since u (ns ++ numbers (near_of past)) ≤ came_since u (far_of past) + 1) (sym is) le)

  -- one that begins a CON
  next : (e : Entry) (past : List Hop) (con : Open) (id : ℕ) → ChannelLaw one other near far (Near e ∷ past)
      → begun e ≡ Some con → con.to ≡ far → issued e ≡ record { at = e.at; id = id } ∷ [] → OverAreTaken near past
      → Count near far u past
      → Count near far u (Near e ∷ past)
  next e past con id law is to number over (even le) =
      one_out con (inl is) to (λ k. ⊎_elim (λ x. x) taken k)
      (subst (λ ns. latest (ns ++ numbers (near_of past)) ≤ con.first) (sym number) (omega (arith, first)))
      (subst (λ ns. issued_since u (ns ++ numbers (near_of past)) ≤ came_since u (far_of past) + 1) (sym number)
      (one_issued (nat_le u e.at) _ _ le))
    where
      first : con.first ≡ e.at
      first = (begins_of e con is).first_is

      taken : Ever (OnFar (Takes near con)) past → ⊥
      taken k = begun_once one (near_of past) e con law.near_law is
          (taken_begun one other near far (Near e ∷ past) con law.near_law (inl is)
          ((cons_spelled one (e ∷ near_of past) law.near_law).0 con is) past (λ P h. inr h)
          (earlier one other near far past (Near e) law) k)
  next e past con id law is to number over (one_out old b old_to n last le) = absurd (⊎_elim
      (λ h. (one_outstanding one (e ∷ near_of past) law.near_law).0 con is
      (Ever_map (λ x. as_begun x ≡ old) (λ (d : Open). same_endpoint d.to con.to ≡ true)
      (λ x k. place_same x.to con.to (ap (λ (y : Open). y.to) k ∙ (old_to ∙ sym to))) (outstanding (near_of past)) h))
      n (over old b))

  -- one that comes
  comes : (x : Entry) (past : List Hop) → LayerLaw one (near_of past) → Count near far u past
      → Count near far u (Far x ∷ past)
  comes x past law (even le) = let g = grows u x (far_of past) in even (omega (arith, le, g))
  comes x past law (one_out con b to n last le) = by (hands_up near con.id x) refl
    where
      stays : (Takes near con x → ⊥) → Count near far u (Far x ∷ past)
      stays not = let g = grows u x (far_of past) in
          one_out con b to (λ k. ⊎_elim not n k) last (omega (arith, le, g))

      by : (h : Bool) → hands_up near con.id x ≡ h → Count near far u (Far x ∷ past)
      by false e = stays (λ t. let k = t.up in cc (e, k))
      by true e = ⊎_elim before late (cases_lt x.at u)
        where
          before : x.at < u → Count near far u (Far x ∷ past)
          before less = ⊎_elim (λ young. stays (λ t. let f = t.from in absurd (omega (arith, young, f))))
              (λ old. let none = none_since one.word u (numbers (near_of past)) (numbers_law one (near_of past) law)
              (omega (arith, last, old, less)) in even (omega (arith, none)))
              (cases_lt x.at con.first)

          late : u ≤ x.at → Count near far u (Far x ∷ past)
          late le' =
              let k : IsTaken near con.id x = kept_by near con.id x e in
              let c = one_came u x (far_of past) k.message (taken_handed x k.message k.is) le' in
              even (omega (arith, c, le))

  count : (all : List Hop) → ChannelLaw one other near far all → AreConsFor far (near_of all)
      → Always (λ past h. OverAreTaken near past) all → Count near far u all
  count [] law cons over = even (omega arith)
  count (Far x ∷ past) law cons over =
      comes x past law.near_law (count past (earlier one other near far past (Far x) law) cons over.1)
  count (Near e ∷ past) law cons over =
      go e.answer refl (count past (earlier one other near far past (Near e) law) cons.1 over.1)
    where
      quiet : (a : Answer) → e.answer ≡ a → issued_by e.at a ≡ [] → issued e ≡ []
      quiet a is none = ap (issued_by e.at) is ∙ none

      go : (a : Answer) → e.answer ≡ a → Count near far u past → Count near far u (Near e ∷ past)
      go (Sent id) is c = let k = cons.0 id is in next e past k.0 id law k.1 k.2 (ap (issued_by e.at) is) over.0 c
      go (Becomes w) is c = same e past (quiet (Becomes w) is refl) c
      go Nothing is c = same e past (quiet Nothing is refl) c
      go (Is b) is c = same e past (quiet (Is b) is refl) c
      go Busied is c = same e past (quiet Busied is refl) c
      go NoIds is c = same e past (quiet NoIds is refl) c
      go Idle is c = same e past (quiet Idle is refl) c
      go (Copied to id) is c = same e past (quiet (Copied to id) is refl) c
      go (Expired to id) is c = same e past (quiet (Expired to id) is refl) c
      go (Gives p) is c = same e past (quiet (Gives p) is refl) c

at_most : (near far : Endpoint) (u : ℕ) (all : List Hop) → Count near far u all
    → issued_since u (numbers (near_of all)) ≤ came_since u (far_of all) + 1
at_most near far u all (even le) = omega (arith, le)
at_most near far u all (one_out con b to n last le) = le

pub ids_are_free : (one other : Setup) (near far : Endpoint) (all : List Hop) → ChannelLaw one other near far all
    → IdsAreFree one.word near far all
ids_are_free one other near far all law now cons over few le held =
    let m : ManySince (numbers (near_of all)) now =
    held_is_many one.word (numbers (near_of all)) (numbers_law one (near_of all) law.near_law) now held in
    let young = m.young in
    let many = m.many in
    let c = at_most near far m.since all (count one other near far m.since all law cons over) in
    let t = two other m.since now (far_of all) law.far_law le (omega (arith, young)) in
    let a = few m.since in
    let b = few (m.since + 247001) in
    absurd (omega (arith, many, c, t, a, b))
