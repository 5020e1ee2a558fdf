-- What the tests of a state decide, in the words of the trace.
use Rattle.coap_layer.specs.Trace.{Setup, Replayed, Entry}
use Rattle.std.proofs.Common.{◌≡◌, ℕ, ◌≤◌, nat_le, Bool, true, false, Option, Some, None, List, [], ◌∷◌, refl, ap, sym}
use Rattle.std.proofs.Common.{◌∙◌, subst, ◌&&◌, cond}
use Rattle.coap_types.specs.declared.endpoint.Endpoint.{Endpoint}
use Rattle.coap_types.specs.SameEndpoint.{same_endpoint}
use Rattle.coap_layer.specs.Words.{Incoming, clock, numbers, Remembered, remembered, was_con, replied, is_con, Open}
use Rattle.coap_layer.specs.Words.{is_to, outstanding}
use Rattle.coap_layer.specs.Machine.State.{State, history, replay, is_outstanding, is_busy, is_remembered, is_full}
use Rattle.coap_layer.specs.Machine.State.{is_free, to_packets, uses}
use Rattle.coap_layer.specs.Rows.{Outstanding, Busy, MayGive, Withholds, stored, LayerLaw}
use Rattle.coap_layer.proofs.ListLemmas.{le_true, true_le, any_ever, ever_any}
use Rattle.coap_layer.proofs.Machine.WhatIsRemembered.{remembered_of, of_remembered, count_is}
use Rattle.coap_layer.proofs.Machine.WhatIsReplied.{found_is}
use Rattle.coap_layer.proofs.Machine.WhatIsIssued.{Chooses, free_is, one_of, next_is, uses_are}

-- a test, and what it decides
abbrev pub Decides : Bool → Type 0 → Type 0
Decides true P = P
Decides false P = P → ⊥

decided : (b : Bool) (P : Type 0) → (b ≡ true → P) → (P → b ≡ true) → Decides b P
decided true P f g = f refl
decided false P f g = λ p. cc (g p)

pub is_true : (b : Bool) (P : Type 0) → Decides b P → P → b ≡ true
is_true true P d p = refl
is_true false P d p = absurd (d p)

pub is_false : (b : Bool) (P : Type 0) → Decides b P → (P → ⊥) → b ≡ false
is_false true P d p = absurd (p d)
is_false false P d p = refl

module _ (setup : Setup) (t : List Entry) where
  abbrev h : State
  h = history setup t

  pub outstanding_is : (to : Endpoint) (id : ℕ) → Decides (is_outstanding to id h.open_cons) (Outstanding t to id)
  outstanding_is to id = decided _ _ (any_ever (is_to to id) (λ c. is_to to id c ≡ true) (λ c k. k) (outstanding t))
      (ever_any (is_to to id) (λ c. is_to to id c ≡ true) (λ c k. k) (outstanding t))

  pub busy_is : (to : Endpoint) → Decides (is_busy to h.open_cons) (Busy t to)
  busy_is to = decided _ _ (any_ever (λ (c : Open). same_endpoint c.to to) (λ (c : Open). same_endpoint c.to to ≡ true)
      (λ c k. k) (outstanding t)) (ever_any (λ (c : Open). same_endpoint c.to to)
      (λ (c : Open). same_endpoint c.to to ≡ true) (λ c k. k) (outstanding t))

  pub known_is : (now : ℕ) (from : Endpoint) (id : ℕ)
      → Decides (is_remembered now from id h.arrived) (Remembered t now from id)
  known_is now from id = decided _ _ (remembered_of now from id t) (of_remembered now from id t)

  pub full_is : (now : ℕ) → Decides (is_full setup.remembered now h.arrived) (setup.remembered ≤ remembered now t)
  full_is now = subst (λ n. Decides (nat_le setup.remembered n) (setup.remembered ≤ remembered now t))
      (sym (count_is now t))
      (decided (nat_le setup.remembered (remembered now t)) _ (le_true setup.remembered (remembered now t))
      (true_le setup.remembered (remembered now t)))

  stored_shape : (c w : Bool) (to : Endpoint) (r : Option (List ℕ))
      → cond c (to_packets to (cond w r None)) []
      ≡ cond (c && w) (elim r [ Some bytes ↦ record { to = to; bytes = bytes } ∷ [] | None ↦ [] ]) []
  stored_shape true true to (Some b) = refl
  stored_shape true true to None = refl
  stored_shape true false to r = refl
  stored_shape false w to r = refl

  pub stored_is : (now : ℕ) (m : Incoming) → LayerLaw setup t → clock t ≤ now → Remembered t now m.from m.message.id
      → replay h now m Replayed ≡ stored t m
  stored_is now m law le old =
      ap (λ r. cond (is_con m.message.kind) (to_packets m.from r) [])
      (found_is now m.from m.message.id setup t law le (of_remembered now m.from m.message.id t old)).1
      ∙ stored_shape (is_con m.message.kind) (was_con m.from m.message.id t) m.from (replied m.from m.message.id t)

  -- whether a Message ID is free
  abbrev I : ℕ → Type 0
  I now = MayGive setup t now

  abbrev J : ℕ → Type 0
  J now = Withholds setup t now

  pub free_here : LayerLaw setup t → (now : ℕ) → Chooses (is_free now h.upcoming h.last_used) (I now) (J now)
  free_here law now = subst (λ n. Chooses (is_free now n (uses t)) (I now) (J now)) (sym (next_is setup t))
      (free_is setup.word (numbers t) (uses t) now (uses_are setup t law))

  pub is_true_by : (now : ℕ) (b : Bool) → Chooses b (I now) (J now) → I now → b ≡ true
  is_true_by now true c k = refl
  is_true_by now false c k = absurd (one_of setup.word (numbers t) now k c)

  pub is_false_by : (now : ℕ) (b : Bool) → Chooses b (I now) (J now) → J now → b ≡ false
  is_false_by now true c k = absurd (one_of setup.word (numbers t) now c k)
  is_false_by now false c k = refl
