-- What is taken stays with its endpoint and Message ID, and what is outstanding is the newest to its place.
use Rattle.std.proofs.Common.{◌≡◌, inl, inr, ⊎_elim, ◌≤◌, ℕ, true, false, Option, Some, None, List, [], ◌∷◌, refl}
use Rattle.std.proofs.Common.{ap, ◌∙◌, arith, option_to_list}
use Rattle.std.proofs.lemmas.Bool.Decides.{nat_tests}
use Rattle.std.specs.List.{filter_map}
use Rattle.coap_types.specs.Past.{Ever}
use Rattle.coap_types.proofs.Facts.Traces.{Ever_append}
use Rattle.coap_types.specs.declared.endpoint.Endpoint.{Endpoint}
use Rattle.coap_types.specs.SameEndpoint.{same_endpoint}
use Rattle.coap_types.proofs.Facts.Endpoints.{same_endpoint_is}
use Rattle.coap_layer.specs.Machine.Calls.{IsBegun, IsTaken}
use Rattle.coap_layer.specs.Rows.{LayerLaw}
use Rattle.coap_layer.specs.Sends.{IsIn, as_begun}
use Rattle.coap_layer.specs.Trace.{Setup, Entry}
use Rattle.coap_layer.specs.Words.{Incoming, taken, is_from, hands_up, Open, left_by, begun, outstanding}
use Rattle.coap_layer.proofs.Copies.CopiesInTime.{in_option, in_filter_map, left_same, begun_by, one_outstanding}
use Rattle.coap_layer.proofs.Copies.WhatIsOpen.{place_same, busy_with}
use Rattle.coap_layer.proofs.ListLemmas.{both, and_left, and_right, same_nat}
use Rattle.coap_layer.proofs.Numbers.OneEntryForAnId.{begins_of}

pub kept_by : (from : Endpoint) (id : ℕ) (e : Entry) → hands_up from id e ≡ true → IsTaken from id e
kept_by from id e h = go (taken e) refl h
  where
    go : (o : Option Incoming) → taken e ≡ o → elim o [ Some m ↦ is_from from id m | None ↦ false ] ≡ true
        → IsTaken from id e
    go None is k = absurd (cc k)
    go (Some m) is k = record {
      message = m;
      is = is;
      from_is = same_endpoint_is m.from from (and_left _ _ k);
      id_is = same_nat m.message.id id (and_right (same_endpoint m.from from) _ k);
    }

pub up_by : (from : Endpoint) (id : ℕ) (e : Entry) (m : Incoming) → taken e ≡ Some m → m.from ≡ from → m.message.id ≡ id
    → hands_up from id e ≡ true
up_by from id e m is place n = rw (hands_up, is) (both _ _ (place_same m.from from place) (grind (arith, nat_tests, n)))

-- a CON that is outstanding was begun no earlier than any other to its place
pub alone : (setup : Setup) (t : List Entry) (c d : Open) → LayerLaw setup t → IsIn c (outstanding t)
    → Ever (IsBegun d) t
    → c.to ≡ d.to → d.first ≤ c.first
alone setup [] c d law h b to = absurd h
alone setup (e ∷ past) c d law h b to = ⊎_elim (old (λ x k l. alone setup past x d law.1 k l)) new
    (Ever_append (λ y. y ≡ c) (filter_map (left_by e) (outstanding past)) (option_to_list (begun e)) h)
  where
    new : IsIn c (option_to_list (begun e)) → d.first ≤ c.first
    new k =
        let f = (begins_of e c (in_option c (begun e) k)).first_is in
        let g = begun_by setup (e ∷ past) d law b in
        omega (arith, f, g)

    old : ((x : Open) → IsIn x (outstanding past) → Ever (IsBegun d) past → x.to ≡ d.to → d.first ≤ x.first)
        → IsIn c (filter_map (left_by e) (outstanding past)) → d.first ≤ c.first
    old f k = go b
      where
        q : (x : Open) × IsIn x (outstanding past) × (left_by e x ≡ Some c)
        q = in_filter_map (left_by e) c (outstanding past) k

        same : as_begun q.0 ≡ as_begun c
        same = left_same e q.0 c q.2

        place : q.0.to ≡ d.to
        place = ap (λ (x : Open). x.to) same ∙ to

        go : Ever (IsBegun d) (e ∷ past) → d.first ≤ c.first
        go (inl now) = absurd ((one_outstanding setup (e ∷ past) law).0 d now (busy_with past q.0 d q.1 place))
        go (inr before) = let a = f q.0 q.1 before place in let i : q.0.first
            ≡ c.first = ap (λ (x : Open). x.first) same in omega (arith, a, i)
