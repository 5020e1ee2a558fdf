-- A CON is over where its acknowledgement or its Reset comes, no matter which of them.
use Rattle.std.proofs.Common.{◌≡◌, inl, inr, ⊎_elim, ℕ, ◌==◌, ◌&&◌, true, List, [], ◌∷◌, ◌++◌, refl, ap, sym, ◌∙◌}
use Rattle.std.proofs.Common.{subst}
use Rattle.std.proofs.Common.{arith, option_to_list}
use Rattle.std.proofs.lemmas.Bool.Decides.{nat_tests}
use Rattle.std.specs.List.{filter_map}
use Rattle.coap_types.specs.Past.{Ever, Sometime}
use Rattle.coap_types.proofs.Facts.Traces.{Ever_append, Ever_map, Ever_back}
use Rattle.coap_types.specs.Roles.{role_of}
use Rattle.coap_types.specs.declared.message.Kind.TheVariants.{Ack, Rst}
use Rattle.coap_types.specs.declared.role.Role.TheVariants as role
use Rattle.coap_types.specs.SameEndpoint.{same_endpoint}
use Rattle.coap_layer.specs.Machine.Calls.{IsBegun}
use Rattle.coap_layer.specs.Rows.{LayerLaw, Sorts, Ignores, Outstanding, ignores_non, ignores_reset, ignores_ack}
use Rattle.coap_layer.specs.Rows.{ignores_unmatched, ignores_new, rejects, drops, takes_ack, takes_reset, takes_answer}
use Rattle.coap_layer.specs.Rows.{passes_reset, replays, hands_over}
use Rattle.coap_layer.specs.Sends.{as_begun, IsOpen}
use Rattle.coap_layer.specs.Taking.{EndedAfter, EndsIt}
use Rattle.coap_layer.specs.Trace.{Receive, Reset, Becomes, Entry}
use Rattle.coap_layer.specs.Words.{Incoming, Open, is_to, ends_in, left_by, begun, outstanding}
use Rattle.coap_layer.specs.declared.setup.Setup.{Setup}
use Rattle.coap_layer.proofs.Arrivals.AcksAreTaken.{sorts_as, all_take_acks}
use Rattle.coap_layer.proofs.Copies.CopiesInTime.{in_filter_map, left_same}
use Rattle.coap_layer.proofs.Copies.OverStays.{not_new, over}
use Rattle.coap_layer.proofs.Copies.WhatIsOpen.{some_in, place_same}
use Rattle.coap_layer.proofs.ListLemmas.{both}
use Rattle.coap_fair.specs.LaterCopies.{BringsEnd, AreOverByThem}

-- a Reset that arrives while its CON is outstanding is taken
reset_in : (setup : Setup) (past : List Entry) (e : Entry) (n : Incoming) → n.message.kind ≡ Rst
    → role_of n.message.code ≡ role.Empty → Outstanding past n.from n.message.id → Sorts setup past e n
    → e.answer ≡ Becomes (Reset n.message.id)
reset_in setup past e n kind class is (rejects r) = let a = r.kind in absurd (cc (kind, a))
reset_in setup past e n kind class is (drops r) = absurd (ignored r.why)
  where
    ignored : Ignores setup past e n → ⊥
    ignored (ignores_non k) = let a = k.kind in cc (kind, a)
    ignored (ignores_reset k) = k.class class
    ignored (ignores_ack k) = let a = k.kind in cc (kind, a)
    ignored (ignores_unmatched k) = let a = k.kind in cc (kind, a)
    ignored (ignores_new k) = ⊎_elim (λ a. cc (kind, a)) (λ a. cc (kind, a)) k.kind
reset_in setup past e n kind class is (takes_ack r) = let a = r.kind in absurd (cc (kind, a))
reset_in setup past e n kind class is (takes_reset r) = r.answer
reset_in setup past e n kind class is (passes_reset r) = absurd (r.alone is)
reset_in setup past e n kind class is (takes_answer r) = let a = r.kind in absurd (cc (kind, a))
reset_in setup past e n kind class is (replays r) = absurd (⊎_elim (λ a. cc (kind, a)) (λ a. cc (kind, a)) r.kind)
reset_in setup past e n kind class is (hands_over r) = absurd (⊎_elim (λ a. cc (kind, a)) (λ a. cc (kind, a)) r.kind)

-- what ends it does so
ends : (setup : Setup) (past : List Entry) (y : Entry) (bytes : List ℕ) (con : Open) → LayerLaw setup (y ∷ past)
    → y.call ≡ Receive con.to bytes → EndsIt con bytes → IsOpen past con
    → ends_in y.call y.answer con.to con.id ≡ true
ends setup past y bytes con law call it is_open = ⊎_elim acked reset it.kind
  where
    there : Outstanding past con.to it.message.id
    there = Ever_map (λ x. as_begun x ≡ con) (λ c. is_to con.to it.message.id c ≡ true)
        (λ x k. both _ _ (place_same x.to con.to (ap (λ (z : Open). z.to) k))
        (let n : x.id ≡ it.message.id = ap (λ (z : Open). z.id) k ∙ sym it.id in grind (arith, nat_tests, n)))
        (outstanding past) is_open

    same_place : (same_endpoint con.to con.to && (con.id == it.message.id)) ≡ true
    same_place = both _ _ (place_same con.to con.to refl)
        (let n : con.id ≡ it.message.id = sym it.id in grind (arith, nat_tests, n))

    acked : it.message.kind ≡ Ack → ends_in y.call y.answer con.to con.id ≡ true
    acked kind =
        let a = (all_take_acks setup (y ∷ past) law).0.empty con.to bytes it.message call it.spells kind it.empty there
        in
        ap (λ c. ends_in c y.answer con.to con.id) call
        ∙ (ap (λ b. ends_in (Receive con.to bytes) b con.to con.id) a ∙ same_place)

    reset : it.message.kind ≡ Rst → ends_in y.call y.answer con.to con.id ≡ true
    reset kind =
        let a = reset_in setup past y (record { from = con.to; message = it.message }) kind it.empty there
        (sorts_as setup past y con.to bytes it.message law.0 call it.spells) in
        ap (λ c. ends_in c y.answer con.to con.id) call
        ∙ (ap (λ b. ends_in (Receive con.to bytes) b con.to con.id) a ∙ same_place)

-- what is outstanding, and was begun before, was outstanding before
open_before : (setup : Setup) (con : Open) (later past : List Entry) → LayerLaw setup (later ++ past)
    → Ever (IsBegun con) past → IsOpen (later ++ past) con
    → IsOpen past con
open_before setup con [] past law there h = h
open_before setup con (e ∷ later) past law there h = ⊎_elim
    (λ k. open_before setup con later past law.1 there
    (let q = some_in (λ x. as_begun x ≡ con) (filter_map (left_by e) (outstanding (later ++ past))) k in
    let r = in_filter_map (left_by e) q.0 (outstanding (later ++ past)) q.1 in
    Ever_map (λ y. y ≡ r.0) (λ y. as_begun y ≡ con)
    (λ y z. ap as_begun z ∙ (left_same e r.0 q.0 r.2 ∙ q.2)) (outstanding (later ++ past)) r.1))
    (λ k. absurd (not_new setup e (later ++ past) con law (Ever_back (IsBegun con) later past there) k))
    (Ever_append (λ x. as_begun x ≡ con) (filter_map (left_by e) (outstanding (later ++ past)))
    (option_to_list (begun e)) h)

ended_later : (con : Open) (later past : List Entry) → EndedAfter con past → EndedAfter con (later ++ past)
ended_later con [] past h = h
ended_later con (e ∷ later) past h = inr (ended_later con later past h)

-- where it comes
record Part (con : Open) (t : List Entry) : Type 0 where
  later : List Entry
  past : List Entry
  entry : Entry
  is : t ≡ later ++ entry ∷ past
  here : BringsEnd con past entry

part : (con : Open) (t : List Entry) → Sometime (BringsEnd con) t → Part con t
part con [] h = absurd h
part con (e ∷ t) (inl h) = record { later = []; past = t; entry = e; is = refl; here = h }
part con (e ∷ t) (inr h) = let p = part con t h in record {
  later = e ∷ p.later;
  past = p.past;
  entry = p.entry;
  is = ap (λ l. e ∷ l) p.is;
  here = p.here;
}

law_back : (setup : Setup) (later past : List Entry) → LayerLaw setup (later ++ past) → LayerLaw setup past
law_back setup [] past law = law
law_back setup (e ∷ later) past law = law_back setup later past law.1

pub are_over : (setup : Setup) (t : List Entry) → LayerLaw setup t → AreOverByThem t
are_over setup t law con comes is_open =
    let p = part con t comes in
    let all : LayerLaw setup (p.later ++ p.entry ∷ p.past) = subst (LayerLaw setup) p.is law in
    let here : LayerLaw setup (p.entry ∷ p.past) = law_back setup p.later (p.entry ∷ p.past) all in
    let open_then : IsOpen (p.entry ∷ p.past) con = open_before setup con p.later (p.entry ∷ p.past) all
    (inr p.here.begun_before) (subst (λ l. IsOpen l con) p.is is_open) in
    let open_yet : IsOpen p.past con = open_before setup con (p.entry ∷ []) p.past here p.here.begun_before open_then in
    over setup (p.later ++ p.entry ∷ p.past) con all
    (ended_later con p.later (p.entry ∷ p.past)
    (inl (ends setup p.past p.entry p.here.bytes con here p.here.call p.here.ends open_yet, p.here.begun_before)))
    (subst (λ l. IsOpen l con) p.is is_open)
