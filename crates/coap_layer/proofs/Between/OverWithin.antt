-- A CON that is replied to, and whose reply comes, is over.
use Rattle.coap_layer.specs.Trace.{Setup}
use Rattle.std.proofs.Common.{◌≡◌, inl, inr, ⊎_elim, ℕ, ◌==◌, ◌&&◌, true, Some, None, List, []}
use Rattle.std.proofs.Common.{◌∷◌, ◌++◌, refl, ap, sym, ◌∙◌, subst, arith, append_assoc, option_to_list}
use Rattle.std.proofs.lemmas.Bool.Decides.{nat_tests}
use Rattle.std.specs.List.{filter_map}
use Rattle.coap_types.specs.Past.{Ever, Sometime}
use Rattle.coap_types.proofs.Facts.Traces.{Ever_append, Ever_map, Ever_back, Ever_by_law, Ever_of_Since, forget}
use Rattle.coap_types.specs.Roles.{role_of}
use Rattle.coap_types.specs.declared.endpoint.Endpoint.{Endpoint}
use Rattle.coap_types.specs.declared.message.Kind.TheVariants.{Ack, Rst}
use Rattle.coap_types.specs.declared.role.Role.TheVariants as role
use Rattle.coap_types.specs.SameEndpoint.{same_endpoint}
use Rattle.coap_layer.specs.Channel.{Hop, Near, Far, near_of, far_of, OnNear, OnFar, OnFarThen, Takes}
use Rattle.coap_layer.specs.OneClock.{ChannelLaw}
use Rattle.coap_layer.specs.Machine.Calls.{IsBegun}
use Rattle.coap_layer.specs.Rows.{LayerLaw, Row, Sorts, Ignores, Outstanding, ignores_non, ignores_reset, ignores_ack}
use Rattle.coap_layer.specs.Rows.{ignores_unmatched, ignores_new, rejects, drops, takes_ack, takes_reset, takes_answer}
use Rattle.coap_layer.specs.Rows.{passes_reset, replays, hands_over}
use Rattle.coap_layer.specs.Sends.{IsIn, as_begun, IsOpen, SpellsCon}
use Rattle.coap_layer.specs.Taking.{EndedAfter, EndsIt, EndsWithin, ArrivesWithin, OverWithin}
use Rattle.coap_layer.specs.Trace.{Receive, Reply, Reset, Becomes, Entry}
use Rattle.coap_layer.specs.Words.{Incoming, handed, Open, is_to, ends_in, left_by, begun, outstanding}
use Rattle.coap_layer.proofs.Arrivals.AcksAreTaken.{sorts_as, all_take_acks}
use Rattle.coap_layer.proofs.Between.IdsAreFree.{taken_begun}
use Rattle.coap_layer.proofs.Copies.CopiesInTime.{in_filter_map, left_same}
use Rattle.coap_layer.proofs.Copies.OverStays.{not_new, over}
use Rattle.coap_layer.proofs.Copies.WhatIsOpen.{some_in, place_same}
use Rattle.coap_layer.proofs.Facts.Hops.{near_later, near_more, to_far}
use Rattle.coap_layer.proofs.Paced.AtOneClock.{earlier}
use Rattle.coap_layer.proofs.ListLemmas.{both}
use Rattle.coap_layer.proofs.Out.EachGoesOut.{cons_spelled}

-- a Reset that arrives while its CON is outstanding is taken
reset_in : (setup : Setup) (past : List Entry) (e : Entry) (n : Incoming) → n.message.kind ≡ Rst
    → role_of n.message.code ≡ role.Empty → Outstanding past n.from n.message.id → Sorts setup past e n
    → e.answer ≡ Becomes (Reset n.message.id)
reset_in setup past e n kind class is (rejects r) = let a = r.kind in absurd (cc (kind, a))
reset_in setup past e n kind class is (drops r) = absurd (ignored r.why)
  where
    ignored : Ignores setup past e n → ⊥
    ignored (ignores_non k) = let a = k.kind in cc (kind, a)
    ignored (ignores_reset k) = k.class class
    ignored (ignores_ack k) = let a = k.kind in cc (kind, a)
    ignored (ignores_unmatched k) = let a = k.kind in cc (kind, a)
    ignored (ignores_new k) = ⊎_elim (λ a. cc (kind, a)) (λ a. cc (kind, a)) k.kind
reset_in setup past e n kind class is (takes_ack r) = let a = r.kind in absurd (cc (kind, a))
reset_in setup past e n kind class is (takes_reset r) = r.answer
reset_in setup past e n kind class is (passes_reset r) = absurd (r.alone is)
reset_in setup past e n kind class is (takes_answer r) = let a = r.kind in absurd (cc (kind, a))
reset_in setup past e n kind class is (replays r) = absurd (⊎_elim (λ a. cc (kind, a)) (λ a. cc (kind, a)) r.kind)
reset_in setup past e n kind class is (hands_over r) = absurd (⊎_elim (λ a. cc (kind, a)) (λ a. cc (kind, a)) r.kind)

-- what ends it does so
ends : (setup : Setup) (past : List Entry) (y : Entry) (far : Endpoint) (bytes : List ℕ) (con : Open)
    → LayerLaw setup (y ∷ past)
    → y.call ≡ Receive far bytes → con.to ≡ far → EndsIt con bytes → IsOpen past con
    → ends_in y.call y.answer con.to con.id ≡ true
ends setup past y far bytes con law call to it is_open = ⊎_elim acked reset it.kind
  where
    there : Outstanding past far it.message.id
    there = Ever_map (λ x. as_begun x ≡ con) (λ c. is_to far it.message.id c ≡ true)
        (λ x k. both _ _ (place_same x.to far (ap (λ (z : Open). z.to) k ∙ to))
        (let n : x.id ≡ it.message.id = ap (λ (z : Open). z.id) k ∙ sym it.id in grind (arith, nat_tests, n)))
        (outstanding past) is_open

    same_place : (same_endpoint con.to far && (con.id == it.message.id)) ≡ true
    same_place = both _ _ (place_same con.to far to)
        (let n : con.id ≡ it.message.id = sym it.id in grind (arith, nat_tests, n))

    acked : it.message.kind ≡ Ack → ends_in y.call y.answer con.to con.id ≡ true
    acked kind =
        let a = (all_take_acks setup (y ∷ past) law).0.empty far bytes it.message call it.spells kind it.empty there in
        ap (λ c. ends_in c y.answer con.to con.id) call
        ∙ (ap (λ b. ends_in (Receive far bytes) b con.to con.id) a ∙ same_place)

    reset : it.message.kind ≡ Rst → ends_in y.call y.answer con.to con.id ≡ true
    reset kind =
        let a = reset_in setup past y (record { from = far; message = it.message }) kind it.empty there
        (sorts_as setup past y far bytes it.message law.0 call it.spells) in
        ap (λ c. ends_in c y.answer con.to con.id) call
        ∙ (ap (λ b. ends_in (Receive far bytes) b con.to con.id) a ∙ same_place)

-- what is outstanding, and was begun before, was outstanding before
open_before : (setup : Setup) (con : Open) (later past : List Entry) → LayerLaw setup (later ++ past)
    → Ever (IsBegun con) past → IsOpen (later ++ past) con
    → IsOpen past con
open_before setup con [] past law there h = h
open_before setup con (e ∷ later) past law there h = ⊎_elim
    (λ k. open_before setup con later past law.1 there
    (let q = some_in (λ x. as_begun x ≡ con) (filter_map (left_by e) (outstanding (later ++ past))) k in
    let r = in_filter_map (left_by e) q.0 (outstanding (later ++ past)) q.1 in
    Ever_map (λ y. y ≡ r.0) (λ y. as_begun y ≡ con)
    (λ y z. ap as_begun z ∙ (left_same e r.0 q.0 r.2 ∙ q.2)) (outstanding (later ++ past)) r.1))
    (λ k. absurd (not_new setup e (later ++ past) con law (Ever_back (IsBegun con) later past there) k))
    (Ever_append (λ x. as_begun x ≡ con) (filter_map (left_by e) (outstanding (later ++ past)))
    (option_to_list (begun e)) h)

ended_later : (con : Open) (later past : List Entry) → EndedAfter con past → EndedAfter con (later ++ past)
ended_later con [] past h = h
ended_later con (e ∷ later) past h = inr (ended_later con later past h)

-- where something happened
pub record FarPart (P : List Entry → Entry → Type 0) (all : List Hop) : Type 0 where
  pub later : List Hop
  pub past : List Hop
  pub entry : Entry
  pub is : all ≡ later ++ Far entry ∷ past
  pub here : P (far_of past) entry

far_part : (P : List Entry → Entry → Type 0) (all : List Hop) → Sometime (OnFarThen P) all → FarPart P all
far_part P [] h = absurd h
far_part P (Near e ∷ past) (inl h) = absurd h
far_part P (Far e ∷ past) (inl h) = record { later = []; past = past; entry = e; is = refl; here = h }
far_part P (h ∷ past) (inr k) = let p = far_part P past k in record {
  later = h ∷ p.later;
  past = p.past;
  entry = p.entry;
  is = ap (λ l. h ∷ l) p.is;
  here = p.here;
}

pub record NearPart (P : Entry → Type 0) (all : List Hop) : Type 0 where
  pub later : List Hop
  pub past : List Hop
  pub entry : Entry
  pub is : all ≡ later ++ Near entry ∷ past
  pub here : P entry

near_part : (P : Entry → Type 0) (all : List Hop) → Ever (OnNear P) all → NearPart P all
near_part P [] h = absurd h
near_part P (Far e ∷ past) (inl h) = absurd h
near_part P (Near e ∷ past) (inl h) = record { later = []; past = past; entry = e; is = refl; here = h }
near_part P (h ∷ past) (inr k) = let p = near_part P past k in record {
  later = h ∷ p.later;
  past = p.past;
  entry = p.entry;
  is = ap (λ l. h ∷ l) p.is;
  here = p.here;
}

module _ (one other : Setup) (near far : Endpoint) where
  law_back : (later r : List Hop) → ChannelLaw one other near far (later ++ r) → ChannelLaw one other near far r
  law_back [] r law = law
  law_back (h ∷ later) r law = law_back later r (earlier one other near far (later ++ r) h law)

  pub over_within : (all : List Hop) → ChannelLaw one other near far all → OverWithin near far all
  over_within all law most now con back begun_there to replied late is_open =
      over one (near_of all) con law.near_law ended is_open
    where
      p : FarPart (EndsWithin most near con) all
      p = far_part (EndsWithin most near con) all replied

      reply_law : ChannelLaw one other near far (Far p.entry ∷ p.past)
      reply_law = law_back p.later (Far p.entry ∷ p.past) (subst (ChannelLaw one other near far) p.is law)

      row : Row other (far_of p.past) p.entry (Reply near con.id p.here.bytes)
      row = subst (Row other (far_of p.past) p.entry) p.here.replies.call reply_law.far_law.0.row

      came_back : Ever (OnNear (ArrivesWithin most far p.here.bytes p.entry.at)) p.later
      came_back = back p.later p.past p.entry p.here.bytes p.is
          (subst (IsIn (record { to = near; bytes = p.here.bytes })) (sym row.2) (inl refl))
          (let soon = p.here.soon in omega (arith, soon, late))

      q : NearPart (ArrivesWithin most far p.here.bytes p.entry.at) p.later
      q = near_part (ArrivesWithin most far p.here.bytes p.entry.at) p.later came_back

      -- what was before the acknowledgement came
      r : List Hop
      r = q.past ++ Far p.entry ∷ p.past

      whole : all ≡ q.later ++ Near q.entry ∷ r
      whole = p.is ∙ (ap (λ l. l ++ Far p.entry ∷ p.past) q.is
          ∙ append_assoc q.later (Near q.entry ∷ q.past) (Far p.entry ∷ p.past))

      here_law : ChannelLaw one other near far (Near q.entry ∷ r)
      here_law = law_back q.later (Near q.entry ∷ r) (subst (ChannelLaw one other near far) whole law)

      spelled : SpellsCon con
      spelled = forget (SpellsCon con) (near_of all) (Ever_by_law (λ past e. (c : Open) → begun e ≡ Some c
          → SpellsCon c)
          (IsBegun con) (λ e. SpellsCon con) (λ past e l k. l.0 con k) (near_of all)
          (cons_spelled one (near_of all) law.near_law) begun_there)

      taken : Ever (OnFar (Takes near con)) p.past
      taken = to_far (Takes near con) p.past (Ever_map _ (Takes near con) (λ y k. k.0) (far_of p.past)
          (Ever_of_Since _ (λ y. handed y ≡ None) (far_of p.past) p.here.replies.to_it))

      there : Ever (IsBegun con) (near_of p.past)
      there = taken_begun one other near far all con law.near_law begun_there spelled p.past
          (λ P k. near_later P all (p.later ++ Far p.entry ∷ []) p.past
          (p.is ∙ sym (append_assoc p.later (Far p.entry ∷ []) p.past)) k)
          (earlier one other near far p.past (Far p.entry) reply_law) taken

      begun_before : Ever (IsBegun con) (near_of r)
      begun_before = near_later (IsBegun con) r (q.past ++ Far p.entry ∷ []) p.past
          (sym (append_assoc q.past (Far p.entry ∷ []) p.past)) there

      near_is : near_of all ≡ near_of q.later ++ (q.entry ∷ near_of r)
      near_is = ap near_of whole ∙ near_more q.later (Near q.entry ∷ r)

      open_then : IsOpen (near_of r) con
      open_then = open_before one con (near_of q.later ++ q.entry ∷ []) (near_of r)
          (subst (LayerLaw one) (near_is ∙ sym (append_assoc (near_of q.later) (q.entry ∷ []) (near_of r)))
          law.near_law)
          begun_before
          (subst (λ t. IsOpen t con) (near_is ∙ sym (append_assoc (near_of q.later) (q.entry ∷ []) (near_of r)))
          is_open)

      ended : EndedAfter con (near_of all)
      ended = subst (EndedAfter con) (sym near_is) (ended_later con (near_of q.later) (q.entry ∷ near_of r)
          (inl (
            ends one (near_of r) q.entry far p.here.bytes con here_law.near_law q.here.call to p.here.ends open_then,
            begun_before,
          )))
