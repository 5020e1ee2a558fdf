-- What one call changes of the clock, of what was chosen, of the numbers, and of the key of a name.
use Rattle.std.proofs.Common.{◌≡◌, ℕ, ◌+◌, ◌-◌, ◌<◌, ◌≤◌, ◌⊎◌, inl, inr, Bool, true, false, cond, List, Option, Some}
use Rattle.std.proofs.Common.{None, refl, sym, ap, ◌∙◌, subst, arith}
use Rattle.std.specs.Cmp.{IsEquivalence}
use Rattle.std.specs.Map.{lookup}
use Rattle.coap_types.specs.declared.endpoint.Endpoint.{Endpoint}
use Rattle.coap_types.specs.declared.transmission.TheConstants.{EXCHANGE_LIFETIME_MS as exchange_lifetime}
use Rattle.coap_types.specs.SameEndpoint.{same_endpoint}
use Rattle.coap_types.proofs.Facts.Endpoints.{same_endpoint_is}
use Rattle.coap_names.specs.declared.names.Idle.{Idle}
use Rattle.coap_names.specs.Numbered.{numbered, number_of, names_in}
use Rattle.coap_names.specs.Trace.{Call, NameOf, Sent, Hold, Release, Retire, Answer}
use Rattle.coap_names.specs.Tables.{State, keyed}
use Rattle.coap_names.specs.Steps.{Gives, Step}
use Rattle.coap_names.proofs.Lookups.{lookup_same, lookup_last}
use Rattle.coap_names.proofs.Sound.{Sound, number_is, names_within, last_named}

module _ {K : Type 0} {eq : K → K → Bool} (laws : IsEquivalence eq) where
  pub clock_is : (old : State K) (at : ℕ) (call : Call K) (answer : Answer) (new : State K)
      → Step eq old at call answer new → new.clock ≡ at
  clock_is old at (NameOf key) answer new st = elim st.does [
    | inl t ↦ ap (λ s. s.clock) t.new_is
    | inr (inl k) ↦ ap (λ s. s.clock) k.new_is
    | inr (inr (inl a)) ↦ a.gives.clock
    | inr (inr (inr (inl e))) ↦ e.gives.clock
    | inr (inr (inr (inr (inl f)))) ↦ ap (λ s. s.clock) f.new_is
    | inr (inr (inr (inr (inr p)))) ↦ ap (λ s. s.clock) p.new_is
  ]
  clock_is old at (Sent name) answer new st = elim st.does [
    | inl n ↦ ap (λ s. s.clock) n.new_is
    | inr (inl x) ↦ ap (λ s. s.clock) x.1.touches.new_is
    | inr (inr x) ↦ ap (λ s. s.clock) x.1.new_is
  ]
  clock_is old at (Hold name) answer new st = elim st.does [
    | inl n ↦ ap (λ s. s.clock) n.new_is
    | inr (inl h) ↦ h.1.clock
    | inr (inr x) ↦ ap (λ s. s.clock) x.1.new_is
  ]
  clock_is old at (Release name) answer new st = elim st.does [
    | inl n ↦ ap (λ s. s.clock) n.new_is
    | inr (inl r) ↦ r.1.clock
    | inr (inr x) ↦ ap (λ s. s.clock) x.1.new_is
  ]
  clock_is old at (Retire name) answer new st = elim st.does [
    | inl n ↦ ap (λ s. s.clock) n.new_is
    | inr r ↦ r.1.clock
  ]

  pub setup_is : (old : State K) (at : ℕ) (call : Call K) (answer : Answer) (new : State K)
      → Step eq old at call answer new → new.setup ≡ old.setup
  setup_is old at (NameOf key) answer new st = elim st.does [
    | inl t ↦ ap (λ s. s.setup) t.new_is
    | inr (inl k) ↦ ap (λ s. s.setup) k.new_is
    | inr (inr (inl a)) ↦ a.gives.setup
    | inr (inr (inr (inl e))) ↦ e.gives.setup
    | inr (inr (inr (inr (inl f)))) ↦ ap (λ s. s.setup) f.new_is
    | inr (inr (inr (inr (inr p)))) ↦ ap (λ s. s.setup) p.new_is
  ]
  setup_is old at (Sent name) answer new st = elim st.does [
    | inl n ↦ ap (λ s. s.setup) n.new_is
    | inr (inl x) ↦ ap (λ s. s.setup) x.1.touches.new_is
    | inr (inr x) ↦ ap (λ s. s.setup) x.1.new_is
  ]
  setup_is old at (Hold name) answer new st = elim st.does [
    | inl n ↦ ap (λ s. s.setup) n.new_is
    | inr (inl h) ↦ h.1.setup
    | inr (inr x) ↦ ap (λ s. s.setup) x.1.new_is
  ]
  setup_is old at (Release name) answer new st = elim st.does [
    | inl n ↦ ap (λ s. s.setup) n.new_is
    | inr (inl r) ↦ r.1.setup
    | inr (inr x) ↦ ap (λ s. s.setup) x.1.new_is
  ]
  setup_is old at (Retire name) answer new st = elim st.does [
    | inl n ↦ ap (λ s. s.setup) n.new_is
    | inr r ↦ r.1.setup
  ]

  up_by : (a b : ℕ) → b ≡ a → a ≤ b
  up_by a b e = omega arith

  up_one : (a b : ℕ) → b ≡ a + 1 → a ≤ b
  up_one a b e = omega arith

  -- no number is given again
  pub given_up : (old : State K) (at : ℕ) (call : Call K) (answer : Answer) (new : State K)
      → Step eq old at call answer new → old.given ≤ new.given
  given_up old at (NameOf key) answer new st = elim st.does [
    | inl t ↦ up_by old.given new.given (ap (λ s. s.given) t.new_is)
    | inr (inl k) ↦ up_by old.given new.given (ap (λ s. s.given) k.new_is)
    | inr (inr (inl a)) ↦ up_one old.given new.given a.gives.given
    | inr (inr (inr (inl e))) ↦ up_one old.given new.given e.gives.given
    | inr (inr (inr (inr (inl f)))) ↦ up_by old.given new.given (ap (λ s. s.given) f.new_is)
    | inr (inr (inr (inr (inr p)))) ↦ up_by old.given new.given (ap (λ s. s.given) p.new_is)
  ]
  given_up old at (Sent name) answer new st = elim st.does [
    | inl n ↦ up_by old.given new.given (ap (λ s. s.given) n.new_is)
    | inr (inl x) ↦ up_by old.given new.given (ap (λ s. s.given) x.1.touches.new_is)
    | inr (inr x) ↦ up_by old.given new.given (ap (λ s. s.given) x.1.new_is)
  ]
  given_up old at (Hold name) answer new st = elim st.does [
    | inl n ↦ up_by old.given new.given (ap (λ s. s.given) n.new_is)
    | inr (inl h) ↦ up_by old.given new.given h.1.given
    | inr (inr x) ↦ up_by old.given new.given (ap (λ s. s.given) x.1.new_is)
  ]
  given_up old at (Release name) answer new st = elim st.does [
    | inl n ↦ up_by old.given new.given (ap (λ s. s.given) n.new_is)
    | inr (inl r) ↦ up_by old.given new.given r.1.given
    | inr (inr x) ↦ up_by old.given new.given (ap (λ s. s.given) x.1.new_is)
  ]
  given_up old at (Retire name) answer new st = elim st.does [
    | inl n ↦ up_by old.given new.given (ap (λ s. s.given) n.new_is)
    | inr r ↦ up_by old.given new.given r.1.given
  ]

  -- a name that was given is another's number
  not_next : (old : State K) (n : Endpoint) → old.given < names_in old.setup.numbering → number_of n < old.given
      → same_endpoint (numbered old.given) n ≡ false
  not_next old n within small =
      let most = names_within old.setup.numbering in
      let number = number_is old.given (omega arith) in
      (elim (same_endpoint (numbered old.given) n) as (λ b. same_endpoint (numbered old.given) n ≡ b
      → same_endpoint (numbered old.given) n ≡ false) [
        | true ↦ λ e. let is = ap number_of (same_endpoint_is (numbered old.given) n e) in absurd (omega arith)
        | false ↦ λ e. e
      ]) refl

  given_key : (old : State K) (at : ℕ) (key : K) (left : List (K × Idle)) (keys : Endpoint → Option K)
      (answer : Answer) (new : State K) → Gives eq old at key left keys answer new → (n : Endpoint)
      → number_of n < old.given → keyed new n ≡ keys n
  given_key old at key left keys answer new g n small =
      g.keyed n ∙ ap (λ b. cond b (Some key) (keys n)) (not_next old n g.within small)

  or_none : {X : Type 0} (b : Bool) (o r : Option X) → r ≡ cond b None o → (r ≡ o) ⊎ (r ≡ None)
  or_none true o r h = inr h
  or_none false o r h = inl h

  -- the key of a name that was given stays, or the name is no key's any more
  pub keyed_step : (old : State K) (at : ℕ) (call : Call K) (answer : Answer) (new : State K)
      → Step eq old at call answer new → (n : Endpoint) → number_of n < old.given
      → (keyed new n ≡ keyed old n) ⊎ (keyed new n ≡ None)
  keyed_step old at (NameOf key) answer new st n small = elim st.does [
    | inl t ↦ inl (ap (λ s. keyed s n) t.new_is)
    | inr (inl k) ↦ inl (ap (λ s. keyed s n) k.new_is)
    | inr (inr (inl a)) ↦ inl (given_key old at key old.idle (keyed old) answer new a.gives n small)
    | inr (inr (inr (inl e))) ↦ or_none (same_endpoint e.gone.1.name n) (keyed old n) (keyed new n)
        (given_key old at key _ _ answer new e.gives n small)
    | inr (inr (inr (inr (inl f)))) ↦ inl (ap (λ s. keyed s n) f.new_is)
    | inr (inr (inr (inr (inr p)))) ↦ inl (ap (λ s. keyed s n) p.new_is)
  ]
  keyed_step old at (Sent name) answer new st n small = elim st.does [
    | inl x ↦ inl (ap (λ s. keyed s n) x.new_is)
    | inr (inl x) ↦ inl (ap (λ s. keyed s n) x.1.touches.new_is)
    | inr (inr x) ↦ inl (ap (λ s. keyed s n) x.1.new_is)
  ]
  keyed_step old at (Hold name) answer new st n small = elim st.does [
    | inl x ↦ inl (ap (λ s. keyed s n) x.new_is)
    | inr (inl h) ↦ inl (ap (lookup (same_endpoint n)) h.1.keys)
    | inr (inr x) ↦ inl (ap (λ s. keyed s n) x.1.new_is)
  ]
  keyed_step old at (Release name) answer new st n small = elim st.does [
    | inl x ↦ inl (ap (λ s. keyed s n) x.new_is)
    | inr (inl r) ↦ inl (ap (lookup (same_endpoint n)) r.1.keys)
    | inr (inr x) ↦ inl (ap (λ s. keyed s n) x.1.new_is)
  ]
  keyed_step old at (Retire name) answer new st n small = elim st.does [
    | inl x ↦ inl (ap (λ s. keyed s n) x.new_is)
    | inr r ↦ or_none (same_endpoint name n) (keyed old n) (keyed new n) (r.1.keys n)
  ]

  -- why a name is no key's any more: it was retired, or its last datagram came over 247 s ago
  abbrev pub IsForgotten : State K → ℕ → K → Type 0
  IsForgotten old at owner = (p : Idle) × (lookup (eq owner) old.idle ≡ Some p) × (exchange_lifetime < at - p.at.0)

  abbrev pub KeyAfter : State K → ℕ → Call K → Endpoint → K → State K → Type 0
  KeyAfter old at call n owner new = (keyed new n ≡ Some owner) ⊎ ((call ≡ Retire n) ⊎ IsForgotten old at owner)

  pub key_step : (old : State K) (at : ℕ) (call : Call K) (answer : Answer) (new : State K)
      → Step eq old at call answer new → Sound eq old → (n : Endpoint) (owner : K) → keyed old n ≡ Some owner
      → KeyAfter old at call n owner new
  key_step old at (NameOf key) answer new st sound n owner h = elim st.does [
    | inl t ↦ inl (ap (λ s. keyed s n) t.new_is ∙ h)
    | inr (inl k) ↦ inl (ap (λ s. keyed s n) k.new_is ∙ h)
    | inr (inr (inl a)) ↦ inl (given_key old at key old.idle (keyed old) answer new a.gives n small ∙ h)
    | inr (inr (inr (inl e))) ↦ (elim (same_endpoint e.gone.1.name n) as (λ b. same_endpoint e.gone.1.name n ≡ b
        → KeyAfter old at (NameOf key) n owner new) [
          | true ↦ λ s.
              let first = sound.tied.forth e.gone.0 e.gone.1.name (last_named laws old e.gone st.distinct e.last) in
              let here : keyed old n ≡ Some first.0 =
              subst (λ m. keyed old m ≡ Some first.0) (same_endpoint_is e.gone.1.name n s) first.1 in
              let is : first.0 ≡ owner = cc in
              let equal : eq e.gone.0 owner ≡ true = subst (λ x. eq e.gone.0 x ≡ true) is first.2 in
              let found = lookup_last laws old.idle e.gone e.last st.distinct.idle in
              inr (inr (e.gone.1, sym (lookup_same laws e.gone.0 owner old.idle equal) ∙ found, e.over))
          | false ↦ λ s. inl (given_key old at key _ _ answer new e.gives n small
              ∙ (ap (λ b. cond b None (keyed old n)) s ∙ h))
        ]) refl
    | inr (inr (inr (inr (inl f)))) ↦ inl (ap (λ s. keyed s n) f.new_is ∙ h)
    | inr (inr (inr (inr (inr p)))) ↦ inl (ap (λ s. keyed s n) p.new_is ∙ h)
  ]
    where
      small : number_of n < old.given
      small = sound.tied.known n owner h
  key_step old at (Sent name) answer new st sound n owner h = elim st.does [
    | inl x ↦ inl (ap (λ s. keyed s n) x.new_is ∙ h)
    | inr (inl x) ↦ inl (ap (λ s. keyed s n) x.1.touches.new_is ∙ h)
    | inr (inr x) ↦ inl (ap (λ s. keyed s n) x.1.new_is ∙ h)
  ]
  key_step old at (Hold name) answer new st sound n owner h = elim st.does [
    | inl x ↦ inl (ap (λ s. keyed s n) x.new_is ∙ h)
    | inr (inl x) ↦ inl (ap (lookup (same_endpoint n)) x.1.keys ∙ h)
    | inr (inr x) ↦ inl (ap (λ s. keyed s n) x.1.new_is ∙ h)
  ]
  key_step old at (Release name) answer new st sound n owner h = elim st.does [
    | inl x ↦ inl (ap (λ s. keyed s n) x.new_is ∙ h)
    | inr (inl x) ↦ inl (ap (lookup (same_endpoint n)) x.1.keys ∙ h)
    | inr (inr x) ↦ inl (ap (λ s. keyed s n) x.1.new_is ∙ h)
  ]
  key_step old at (Retire name) answer new st sound n owner h = elim st.does [
    | inl x ↦ inl (ap (λ s. keyed s n) x.new_is ∙ h)
    | inr r ↦ (elim (same_endpoint name n) as (λ b. same_endpoint name n ≡ b
        → KeyAfter old at (Retire name) n owner new) [
          | true ↦ λ s. inr (inl (ap Retire (same_endpoint_is name n s)))
          | false ↦ λ s. inl (r.1.keys n ∙ (ap (λ b. cond b None (keyed old n)) s ∙ h))
        ]) refl
  ]
