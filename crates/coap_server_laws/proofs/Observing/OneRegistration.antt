-- What each change of a server's observers and of its store makes of one registration.
use Rattle.std.proofs.Common.{◌≡◌, inl, inr, ◌⊎◌, ℕ, ◌==◌, Bool, true, false, Option, Some, None, List, [], refl, ap}
use Rattle.std.proofs.Common.{sym}
use Rattle.std.proofs.Common.{◌∙◌, cond, arith, option_map}
use Rattle.std.specs.Cmp.{unsigned_Decides}
use Rattle.coap_types.specs.declared.endpoint.Endpoint.{Endpoint}
use Rattle.coap_observe.specs.Observers.{Noted, Observer, is_of, noted_to, removed, registered, sent_to, changed_at}
use Rattle.coap_observe.specs.Observers.{begun, marked_by, registration}
use Rattle.coap_observe.specs.Registrations.{IsOther, told_by}
use Rattle.coap_observe.proofs.Facts.Registrations.{is_of-decides, others_stay, registration-removed}
use Rattle.coap_observe.proofs.Facts.Registrations.{registration-changed_at, registration-noted_to}
use Rattle.coap_observe.proofs.Facts.Registrations.{registration-sent_to}
use Rattle.coap_resource.specs.Content.{Content}
use Rattle.coap_server.specs.Observers.{marked_if}
use Rattle.coap_server.proofs.Facts.Observing.StoreChanges.{IsKept, IsChanged, Effect, kept_by}
use Rattle.coap_server_laws.proofs.Observing.Elsewhere.{elsewhere_either}
use Rattle.coap_observe.specs.Observers.{elsewhere}

-- one pair or another
pub pair_of : (to : Endpoint) (token : List ℕ) (by : Endpoint) (bytes : List ℕ)
    → ((to ≡ by) × (token ≡ bytes)) ⊎ IsOther to token by bytes
pair_of to token by bytes =
    let o : Observer = begun 0 by bytes [] 0 in
    let d = is_of-decides to token o in
    let go : (b : Bool) → is_of to token o ≡ b → ((to ≡ by) × (token ≡ bytes))
    ⊎ IsOther to token by bytes = λ b e. case to token by bytes d.0 d.1 b e in
    go (is_of to token o) refl
  where
    case : (to : Endpoint) (token : List ℕ) (by : Endpoint) (bytes : List ℕ) {z : Bool}
        → (z ≡ true → (by ≡ to) × (bytes ≡ token)) → ((by ≡ to) × (bytes ≡ token) → z ≡ true) → (b : Bool) → z ≡ b
        → ((to ≡ by) × (token ≡ bytes)) ⊎ IsOther to token by bytes
    case to token by bytes f g true e = let k = f e in inl (sym k.0, sym k.1)
    case to token by bytes f g false e = inr (λ k. let z = g (sym k.0, sym k.1) in absurd (cc (e, z)))

module _ (to : Endpoint) (token : List ℕ) where
  abbrev pub reg : List Observer → Option Observer
  reg os = registration to token os

  -- what a call makes of it, and of the store
  pub data Turn (a b : Content) (os ps : List Observer) : Type 0 where
    gone : reg ps ≡ None → Turn a b os ps
    kept : (at : ℕ) → reg ps ≡ reg os → IsKept at a b → Turn a b os ps
    sent : (at : ℕ) (con : Bool) → reg ps ≡ option_map (told_by at con) (reg os) → IsKept at a b → Turn a b os ps
    noted : (at : ℕ) (n : Noted) → reg ps ≡ option_map (λ (o : Observer). record o { noted = Some n }) (reg os)
        → IsKept at a b → Turn a b os ps
    changed : (at : ℕ) (path : List (List ℕ)) → reg ps ≡ option_map (marked_by at path) (reg os)
        → IsChanged path at a b → Turn a b os ps

  pub same_turn : (s : Content) (os : List Observer) → Turn s s os os
  same_turn s os = kept 0 refl (kept_by 0 s s refl)

  pub removed_turn : (s : Content) (by : Endpoint) (bytes : List ℕ) (os : List Observer)
      → Turn s s os (removed by bytes os)
  removed_turn s by bytes os =
      elim (pair_of to token by bytes) [
        | inl e ↦ gone (ap (λ p. registration p token (removed by bytes os)) e.0
            ∙ (ap (λ n. registration by n (removed by bytes os)) e.1 ∙ registration-removed by bytes os))
        | inr n ↦ kept 0 (others_stay to token by bytes os n).removed_stay (kept_by 0 s s refl)
      ]

  pub elsewhere_turn : (s : Content) (peer : Endpoint) (os : List Observer) → Turn s s os (elsewhere peer os)
  elsewhere_turn s peer os = elim (elsewhere_either peer to token os) [
    | inl e ↦ kept 0 e (kept_by 0 s s refl)
    | inr none ↦ gone none.1
  ]

  pub sent_turn : (s : Content) (at : ℕ) (con : Bool) (by : Endpoint) (bytes : List ℕ) (os : List Observer)
      → Turn s s os (sent_to at by bytes con os)
  sent_turn s at con by bytes os =
      elim (pair_of to token by bytes) [
        | inl e ↦ sent at con (ap (λ p. registration to token (sent_to at p bytes con os)) (sym e.0)
            ∙ (ap (λ n. registration to token (sent_to at to n con os)) (sym e.1)
            ∙ registration-sent_to at to token con os))
            (kept_by at s s refl)
        | inr n ↦ kept at ((others_stay to token by bytes os n).sent_stay at con) (kept_by at s s refl)
      ]

  pub noted_turn : (s : Content) (at : ℕ) (by : Endpoint) (bytes : List ℕ) (id : ℕ) (os : List Observer)
      → Turn s s os (noted_to at by bytes id os)
  noted_turn s at by bytes id os =
      elim (pair_of to token by bytes) [
        | inl e ↦ noted at (record { id = id; at = at })
            (ap (λ p. registration to token (noted_to at p bytes id os)) (sym e.0)
            ∙ (ap (λ n. registration to token (noted_to at to n id os)) (sym e.1)
            ∙ registration-noted_to at to token id os))
            (kept_by at s s refl)
        | inr n ↦ kept at ((others_stay to token by bytes os n).noted_stay at id) (kept_by at s s refl)
      ]

  pub registered_turn : (s : Content) (at : ℕ) (by : Endpoint) (bytes : List ℕ) (path : List (List ℕ)) (szx : ℕ)
      (os : List Observer) → IsOther to token by bytes → Turn s s os (registered at by bytes path szx os)
  registered_turn s at by bytes path szx os n = kept at ((others_stay to token by bytes os n).registered_stay at path
      szx)
      (kept_by at s s refl)

  pub marked_turn : (at : ℕ) (path : List (List ℕ)) (a b : Content) (os : List Observer) → Effect path at a b
      → Turn a b os (marked_if at path a b os)
  marked_turn at path a b os (inl k) = by (b.tally.version == a.tally.version)
      ((unsigned_Decides b.tally.version a.tally.version).1 k.version)
    where
      by : (n : Bool) → n ≡ true → Turn a b os (cond n os (changed_at at path os))
      by true e = kept at refl k
      by false e = absurd (cc e)
  marked_turn at path a b os (inr c) = by (b.tally.version == a.tally.version)
      ((unsigned_Decides b.tally.version a.tally.version).0)
    where
      by : (n : Bool) → (n ≡ true → b.tally.version ≡ a.tally.version) → Turn a b os (cond n os (changed_at at path os))
      by true f = let e = f refl in let v = c.version in absurd (omega (arith, e, v))
      by false f = changed at path (registration-changed_at at path to token os) c
