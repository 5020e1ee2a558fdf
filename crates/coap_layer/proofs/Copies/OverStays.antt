-- A CON whose retransmission was ended is not outstanding again.
use Rattle.coap_layer.specs.Trace.{Setup}
use Rattle.std.proofs.Common.{◌≡◌, inl, inr, ⊎_elim, ℕ, true, Some, None, List, [], ◌∷◌, ap, sym}
use Rattle.std.proofs.Common.{◌∙◌, subst, cond, option_to_list}
use Rattle.std.specs.List.{filter_map}
use Rattle.coap_types.specs.Past.{Ever}
use Rattle.coap_types.proofs.Facts.Traces.{Ever_append, Ever_map}
use Rattle.coap_types.specs.declared.endpoint.Endpoint.{Endpoint}
use Rattle.coap_layer.specs.Machine.Calls.{IsBegun}
use Rattle.coap_layer.specs.Rows.{LayerLaw}
use Rattle.coap_layer.specs.Sends.{as_begun, IsOpen}
use Rattle.coap_layer.specs.Taking.{EndedAfter}
use Rattle.coap_layer.specs.Trace.{Entry}
use Rattle.coap_layer.specs.Words.{Open, ends_in, copies_in, left_by, begun, outstanding}
use Rattle.coap_layer.proofs.Copies.CopiesInTime.{in_option, in_filter_map, begun_fresh, left_same}
use Rattle.coap_layer.proofs.Copies.WhatIsOpen.{some_in}
use Rattle.coap_layer.proofs.Numbers.OneEntryForAnId.{begun_once}

ended_begun : (con : Open) (t : List Entry) → EndedAfter con t → Ever (IsBegun con) t
ended_begun con [] h = absurd h
ended_begun con (e ∷ past) (inl h) = inr h.1
ended_begun con (e ∷ past) (inr h) = inr (ended_begun con past h)

-- what an end leaves
none_left : (e : Entry) (x : Open) (con : Open) → as_begun x ≡ con → ends_in e.call e.answer con.to con.id ≡ true
    → left_by e x ≡ None
none_left e x con same h =
    let to : con.to ≡ x.to = sym (ap (λ (y : Open). y.to) same) in
    let id : con.id ≡ x.id = sym (ap (λ (y : Open). y.id) same) in
    let k : ends_in e.call e.answer x.to x.id ≡ true =
    subst (λ (i : ℕ). ends_in e.call e.answer x.to i ≡ true) id
    (subst (λ (p : Endpoint). ends_in e.call e.answer p con.id ≡ true) to h) in
    ap (λ b. cond b None (cond (copies_in e.call e.answer x.to x.id) (Some (record x { last = e.at })) (Some x))) k

module _ (setup : Setup) (e : Entry) (past : List Entry) (con : Open) (law : LayerLaw setup (e ∷ past))
    (there : Ever (IsBegun con) past) where
  -- it is not begun again
  pub not_new : Ever (λ x. as_begun x ≡ con) (option_to_list (begun e)) → ⊥
  not_new k =
      let q = some_in (λ x. as_begun x ≡ con) (option_to_list (begun e)) k in
      let x : Open = q.0 in
      let is : begun e ≡ Some x = in_option x (begun e) q.1 in
      let f = begun_fresh e.at e.call e.answer x is in
      begun_once setup past e con law
      (is ∙ (ap (λ (n : ℕ). Some (record x { last = n })) (f.1 ∙ sym f.0) ∙ ap (λ (y : Open). Some y) q.2)) there

  here : (EndedAfter con past → IsOpen past con → ⊥) → EndedAfter con (e ∷ past) → IsOpen (e ∷ past) con → ⊥
  here before h is_open = ⊎_elim old not_new
      (Ever_append (λ x. as_begun x ≡ con) (filter_map (left_by e) (outstanding past)) (option_to_list (begun e))
      is_open)
    where
      old : Ever (λ x. as_begun x ≡ con) (filter_map (left_by e) (outstanding past)) → ⊥
      old k =
          let q = some_in (λ x. as_begun x ≡ con) (filter_map (left_by e) (outstanding past)) k in
          let r = in_filter_map (left_by e) q.0 (outstanding past) q.1 in
          let same : as_begun r.0 ≡ con = left_same e r.0 q.0 r.2 ∙ q.2 in
          let left = r.2 in
          ⊎_elim (λ n. (let none = none_left e r.0 con same n.0 in cc (none, left)))
          (λ n. before n (Ever_map (λ y. y ≡ r.0) (λ y. as_begun y ≡ con) (λ y z. ap as_begun z ∙ same)
          (outstanding past) r.1)) h

pub over : (setup : Setup) (t : List Entry) (con : Open) → LayerLaw setup t → EndedAfter con t → IsOpen t con → ⊥
over setup [] con law h is_open = h
over setup (e ∷ past) con law h is_open = here setup e past con law (⊎_elim (λ k. k.1) (ended_begun con past) h)
    (over setup past con law.1) h is_open
