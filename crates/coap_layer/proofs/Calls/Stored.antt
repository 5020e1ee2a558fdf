-- A reply changes the message that it is given to, and no other that is remembered.
use Rattle.std.proofs.Common.{◌≡◌, ◌==◌, ◌&&◌, ◌||◌, ℕ, arith, Bool, true, false, Option, Some, None, List, [], ◌∷◌}
use Rattle.std.proofs.Common.{◌++◌, filter, map, option_to_list, refl, ap, sym, ◌∙◌, cond}
use Rattle.std.specs.Option.{option_map}
use Rattle.coap_types.specs.declared.endpoint.Endpoint.{Endpoint}
use Rattle.coap_types.specs.SameEndpoint.{same_endpoint}
use Rattle.coap_types.proofs.Facts.Endpoints.{same_endpoint_is}
use Rattle.coap_layer.specs.Machine.Entries.{IsUpTo, storing}
use Rattle.coap_layer.specs.Machine.State.{Arrived, is_live, is_of, is_remembered}
use Rattle.coap_layer.specs.Trace.{Nothing, Reply}
use Rattle.coap_layer.proofs.Machine.WhatIsRemembered.{same_at, same_live}
use Rattle.coap_layer.proofs.Calls.Entries.{listed_map, map_more, stores_not}
use Rattle.coap_layer.proofs.ListLemmas.{and_left, and_right, both, filter_more, not_true, same_nat}

module _ (now : ℕ) (to : Endpoint) (id : ℕ) (bytes : List ℕ) where
  other : (a : Arrived) → is_live now a ≡ true → is_of now to id a ≡ false
      → (same_endpoint to a.from && (id == a.id)) ≡ false
  other a live down = not_true _ (λ h.
      let place = and_left _ _ h in
      let number = and_right _ _ h in
      let e : to ≡ a.from = same_endpoint_is to a.from place in
      let n : id ≡ a.id = same_nat id a.id number in
      let there : same_endpoint a.from to ≡ true = cc (place, e) in
      let here : (a.id == id) ≡ true = cc (number, n) in
      let yes = both _ _ live (both _ _ there here) in
      absurd (cc (down, yes)))

  abbrev store : Arrived → Arrived
  store = storing to id bytes

  kept_one : (a : Arrived) (es : List Arrived) (b : Bool) → is_live now a ≡ b → is_of now to id a ≡ false
      → filter (is_live now) (map store es) ≡ filter (is_live now) es
      → cond (is_live now (store a)) (store a ∷ filter (is_live now) (map store es))
      (filter (is_live now) (map store es)) ≡ cond (is_live now a) (a ∷ filter (is_live now) es)
      (filter (is_live now) es)
  kept_one a es true live down e = let same : store a ≡ a = stores_not to id bytes a (other a live down) in cc (same, e)
  kept_one a es false dead down e = let same : is_live now (store a)
      ≡ is_live now a = same_live (record { at = 0; call = Reply to id bytes; answer = Nothing; out = [] }) a now in rw
      (same, dead) e

  split : (b c : Bool) → (b || c) ≡ false → (b ≡ false) × (c ≡ false)
  split false c h = (refl, h)
  split true c h = absurd (cc h)

  none_stored : (es : List Arrived) → is_remembered now to id es ≡ false
      → filter (is_live now) (map store es) ≡ filter (is_live now) es
  none_stored [] h = refl
  none_stored (a ∷ es) h =
      let none = split (is_of now to id a) (is_remembered now to id es) h in
      kept_one a es (is_live now a) refl none.0 (none_stored es none.1)

  -- so what is stored in the newest is stored everywhere
  pub stored_newest : (es : List Arrived) (o : Option Arrived) → is_remembered now to id es ≡ false
      → filter (is_live now) (es ++ option_to_list (option_map store o))
      ≡ filter (is_live now) (map store (es ++ option_to_list o))
  stored_newest es o fresh =
      let new : List Arrived = map store (option_to_list o) in
      ap (λ xs. filter (is_live now) (es ++ xs)) (listed_map store o)
      ∙ (filter_more (is_live now) es new
      ∙ (ap (λ xs. xs ++ filter (is_live now) new) (sym (none_stored es fresh))
      ∙ (sym (filter_more (is_live now) (map store es) new)
      ∙ ap (filter (is_live now)) (sym (map_more store es (option_to_list o))))))

  pub upto_stored : (o : Option Arrived) → IsUpTo now (option_to_list o)
      → IsUpTo now (option_to_list (option_map store o))
  upto_stored None h = tt
  upto_stored (Some a) h =
      let same : (store a).at ≡ a.at = same_at (record { at = 0; call = Reply to id bytes; answer = Nothing; out = [] })
      a in
      let old = h.0 in
      (omega (arith, same, old), tt)
