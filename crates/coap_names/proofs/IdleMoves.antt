-- What one call changes of the names that are not held.
use Rattle.std.proofs.Common.{◌≡◌, ℕ, ◌-◌, ◌⊎◌, inl, inr, Bool, true, false, cond, List, length, take, Option, Some}
use Rattle.std.proofs.Common.{None, refl, sym, ap, ◌∙◌}
use Rattle.std.specs.Cmp.{IsEquivalence}
use Rattle.std.specs.Map.{lookup}
use Rattle.lru.specs.LruCache.{last_entry}
use Rattle.coap_types.specs.declared.endpoint.Endpoint.{Endpoint}
use Rattle.coap_names.specs.declared.names.Idle.{Idle}
use Rattle.coap_names.specs.Numbered.{numbered}
use Rattle.coap_names.specs.Trace.{Call, NameOf, Sent, Hold, Release, Retire, Answer, Named, Did}
use Rattle.coap_names.specs.Tables.{State, idle_at, keyed, named, either}
use Rattle.coap_names.specs.Steps.{Distinct, Touches, Gives, Step}
use Rattle.coap_names.proofs.Lookups.{lookup_same, lookup_first, lookup_removed, lookup_touched, last_removed}
use Rattle.coap_names.proofs.Sound.{Sound, alike, unnamed}

module _ {K : Type 0} {eq : K → K → Bool} (laws : IsEquivalence eq) where
  -- what a look-up finds of the names that are not held: one was touched, one is new, the last is forgotten
  pub looks_touched : (old : State K) (at : ℕ) (key : K) (answer : Answer) (new : State K) → Distinct eq old
      → (t : Touches eq old at key answer new) → (q : K)
      → lookup (eq q) new.idle ≡ cond (eq key q) (Some (idle_at t.place.name at)) (lookup (eq q) old.idle)
  looks_touched old at key answer new d t q =
      ap (λ s. lookup (eq q) s.idle) t.new_is
      ∙ lookup_touched laws q key t.place t.place.name at old.idle d.idle t.found

  pub looks_given : (old : State K) (at : ℕ) (key : K) (left : List (K × Idle)) (keys : Endpoint → Option K)
      (answer : Answer) (new : State K) → Gives eq old at key left keys answer new → (q : K)
      → lookup (eq q) new.idle ≡ cond (eq key q) (Some (idle_at (numbered old.given) at)) (lookup (eq q) left)
  looks_given old at key left keys answer new g q =
      ap (lookup (eq q)) g.idle ∙ lookup_first laws q key (idle_at (numbered old.given) at) left

  looks_left : (old : State K) (gone : K × Idle) → Distinct eq old → last_entry old.idle ≡ Some gone → (q : K)
      → lookup (eq q) (take (length old.idle - 1) old.idle) ≡ cond (eq gone.0 q) None (lookup (eq q) old.idle)
  looks_left old gone d last q =
      ap (lookup (eq q)) (last_removed laws old.idle gone last d.idle) ∙ lookup_removed laws q gone.0 old.idle d.idle

  -- a key that has this name, and stands here with one, stands here with this one
  own_name : (old : State K) (name : Endpoint) (key : K) (p : Idle) → Sound eq old → keyed old name ≡ Some key
      → lookup (eq key) old.idle ≡ Some p → name ≡ p.name
  own_name old name key p sound is found =
      let back = sound.tied.back name key is in
      let here : named eq old key ≡ Some p.name = ap (λ o. either o (lookup (eq key) old.held)) found in cc

  set_or : (b : Bool) (w p : Idle) (o r : Option Idle) → r ≡ cond b (Some w) o → r ≡ Some p → (w ≡ p) ⊎ (o ≡ Some p)
  set_or true w p o r h is = inl cc
  set_or false w p o r h is = inr (sym h ∙ is)

  gone_or : {X : Type 0} (b : Bool) (p : X) (o r : Option X) → r ≡ cond b None o → r ≡ Some p → o ≡ Some p
  gone_or true p o r h is = absurd cc
  gone_or false p o r h is = sym h ∙ is

  left_found : (old : State K) (gone : K × Idle) → Distinct eq old → last_entry old.idle ≡ Some gone → (q : K)
      (p : Idle) → lookup (eq q) (take (length old.idle - 1) old.idle) ≡ Some p → lookup (eq q) old.idle ≡ Some p
  left_found old gone d last q p h =
      gone_or (eq gone.0 q) p (lookup (eq q) old.idle) (lookup (eq q) (take (length old.idle - 1) old.idle))
      (looks_left old gone d last q) h

  -- a name that is not held was not held before, or is of this moment: by a datagram from its key or to it, or by a
  -- release
  abbrev pub IsHeard : Call K → Answer → Endpoint → Type 0
  IsHeard call answer n =
      ((k : K) × (call ≡ NameOf k) × (answer ≡ Named n)) ⊎ (((call ≡ Sent n) × (answer ≡ Did true))
      ⊎ ((call ≡ Release n) × (answer ≡ Did true)))

  abbrev pub IsOfNow : ℕ → Call K → Answer → Idle → Type 0
  IsOfNow at call answer p = (p.at.0 ≡ at) × IsHeard call answer p.name

  pub idle_step : (old : State K) (at : ℕ) (call : Call K) (answer : Answer) (new : State K)
      → Step eq old at call answer new → Sound eq old → (q : K) (p : Idle) → lookup (eq q) new.idle ≡ Some p
      → IsOfNow at call answer p ⊎ (lookup (eq q) old.idle ≡ Some p)
  idle_step old at (NameOf key) answer new st sound q p h = elim st.does [
    | inl t ↦ elim (set_or (eq key q) (idle_at t.place.name at) p (lookup (eq q) old.idle) (lookup (eq q) new.idle)
        (looks_touched old at key answer new st.distinct t q) h) [
          | inl is ↦ inl (sym (ap (λ x. x.at.0) is), inl (key, refl, t.answer_is ∙ ap (λ x. Named x.name) is))
          | inr was ↦ inr was
        ]
    | inr (inl k) ↦ inr (sym (ap (λ s. lookup (eq q) s.idle) k.new_is) ∙ h)
    | inr (inr (inl a)) ↦ elim (set_or (eq key q) (idle_at (numbered old.given) at) p (lookup (eq q) old.idle)
        (lookup (eq q) new.idle) (looks_given old at key old.idle (keyed old) answer new a.gives q) h) [
          | inl is ↦ inl (sym (ap (λ x. x.at.0) is), inl (key, refl, a.gives.answer_is ∙ ap (λ x. Named x.name) is))
          | inr was ↦ inr was
        ]
    | inr (inr (inr (inl e))) ↦ elim (set_or (eq key q) (idle_at (numbered old.given) at) p
        (lookup (eq q) (take (length old.idle - 1) old.idle)) (lookup (eq q) new.idle)
        (looks_given old at key _ _ answer new e.gives q) h) [
          | inl is ↦ inl (sym (ap (λ x. x.at.0) is), inl (key, refl, e.gives.answer_is ∙ ap (λ x. Named x.name) is))
          | inr was ↦ inr (left_found old e.gone st.distinct e.last q p was)
        ]
    | inr (inr (inr (inr (inl f)))) ↦ inr (sym (ap (λ s. lookup (eq q) s.idle) f.new_is) ∙ h)
    | inr (inr (inr (inr (inr x)))) ↦ inr (sym (ap (λ s. lookup (eq q) s.idle) x.new_is) ∙ h)
  ]
  idle_step old at (Sent name) answer new st sound q p h = elim st.does [
    | inl x ↦ inr (sym (ap (λ s. lookup (eq q) s.idle) x.new_is) ∙ h)
    | inr (inl x) ↦
        let t = x.1.touches in
        let own : name ≡ t.place.name = own_name old name x.0 t.place sound x.1.keyed t.found in
        elim (set_or (eq x.0 q) (idle_at t.place.name at) p (lookup (eq q) old.idle) (lookup (eq q) new.idle)
        (looks_touched old at x.0 (Named x.1.told) new st.distinct t q) h) [
          | inl is ↦
              inl (sym (ap (λ y. y.at.0) is), inr (inl (ap Sent own ∙ ap (λ y. Sent y.name) is, x.1.answer_is)))
          | inr was ↦ inr was
        ]
    | inr (inr x) ↦ inr (sym (ap (λ s. lookup (eq q) s.idle) x.1.new_is) ∙ h)
  ]
  idle_step old at (Hold name) answer new st sound q p h = elim st.does [
    | inl x ↦ inr (sym (ap (λ s. lookup (eq q) s.idle) x.new_is) ∙ h)
    | inr (inl x) ↦ inr (gone_or (eq x.0 q) p (lookup (eq q) old.idle) (lookup (eq q) new.idle)
        (ap (lookup (eq q)) x.1.idle ∙ lookup_removed laws q x.0 old.idle st.distinct.idle) h)
    | inr (inr x) ↦ inr (sym (ap (λ s. lookup (eq q) s.idle) x.1.new_is) ∙ h)
  ]
  idle_step old at (Release name) answer new st sound q p h = elim st.does [
    | inl x ↦ inr (sym (ap (λ s. lookup (eq q) s.idle) x.new_is) ∙ h)
    | inr (inl x) ↦ elim (set_or (eq x.0 q) (idle_at name at) p (lookup (eq q) old.idle) (lookup (eq q) new.idle)
        (ap (lookup (eq q)) x.1.idle ∙ lookup_first laws q x.0 (idle_at name at) old.idle) h) [
          | inl is ↦ inl (sym (ap (λ y. y.at.0) is), inr (inr (ap (λ y. Release y.name) is, x.1.answer_is)))
          | inr was ↦ inr was
        ]
    | inr (inr x) ↦ inr (sym (ap (λ s. lookup (eq q) s.idle) x.1.new_is) ∙ h)
  ]
  idle_step old at (Retire name) answer new st sound q p h = elim st.does [
    | inl x ↦ inr (sym (ap (λ s. lookup (eq q) s.idle) x.new_is) ∙ h)
    | inr x ↦ inr (gone_or (eq x.0 q) p (lookup (eq q) old.idle) (lookup (eq q) new.idle)
        (ap (lookup (eq q)) x.1.idle ∙ lookup_removed laws q x.0 old.idle st.distinct.idle) h)
  ]

  still_none : (b : Bool) (w : Idle) (o r : Option Idle) → r ≡ cond b (Some w) o → (b ≡ true → ⊥) → o ≡ None → r ≡ None
  still_none true w o r h not none = absurd (not refl)
  still_none false w o r h not none = h ∙ none

  gone_none : (b : Bool) (o r : Option Idle) → r ≡ cond b None o → o ≡ None → r ≡ None
  gone_none true o r h none = h
  gone_none false o r h none = h ∙ none

  -- a held name is held until it is released
  pub held_step : (old : State K) (at : ℕ) (call : Call K) (answer : Answer) (new : State K)
      → Step eq old at call answer new → Sound eq old → (n : Endpoint) (q : K) → lookup (eq q) old.idle ≡ None
      → named eq old q ≡ Some n → (call ≡ Release n → ⊥) → lookup (eq q) new.idle ≡ None
  held_step old at (NameOf key) answer new st sound n q none has not = elim st.does [
    | inl t ↦ still_none (eq key q) (idle_at t.place.name at) (lookup (eq q) old.idle) (lookup (eq q) new.idle)
        (looks_touched old at key answer new st.distinct t q)
        (λ e. let same = lookup_same laws key q old.idle e in let found = t.found in cc) none
    | inr (inl k) ↦ ap (λ s. lookup (eq q) s.idle) k.new_is ∙ none
    | inr (inr (inl a)) ↦ still_none (eq key q) (idle_at (numbered old.given) at) (lookup (eq q) old.idle)
        (lookup (eq q) new.idle) (looks_given old at key old.idle (keyed old) answer new a.gives q)
        (λ e. let same = alike laws old key q e in let new_key = unnamed laws old key a.is_new in cc) none
    | inr (inr (inr (inl e))) ↦ still_none (eq key q) (idle_at (numbered old.given) at)
        (lookup (eq q) (take (length old.idle - 1) old.idle)) (lookup (eq q) new.idle)
        (looks_given old at key _ _ answer new e.gives q)
        (λ b. let same = alike laws old key q b in let new_key = unnamed laws old key e.is_new in cc)
        (gone_none (eq e.gone.0 q) (lookup (eq q) old.idle) (lookup (eq q) (take (length old.idle - 1) old.idle))
        (looks_left old e.gone st.distinct e.last q) none)
    | inr (inr (inr (inr (inl f)))) ↦ ap (λ s. lookup (eq q) s.idle) f.new_is ∙ none
    | inr (inr (inr (inr (inr x)))) ↦ ap (λ s. lookup (eq q) s.idle) x.new_is ∙ none
  ]
  held_step old at (Sent name) answer new st sound n q none has not = elim st.does [
    | inl x ↦ ap (λ s. lookup (eq q) s.idle) x.new_is ∙ none
    | inr (inl x) ↦
        let t = x.1.touches in
        still_none (eq x.0 q) (idle_at t.place.name at) (lookup (eq q) old.idle) (lookup (eq q) new.idle)
        (looks_touched old at x.0 (Named x.1.told) new st.distinct t q)
        (λ e. let same = lookup_same laws x.0 q old.idle e in let found = t.found in cc) none
    | inr (inr x) ↦ ap (λ s. lookup (eq q) s.idle) x.1.new_is ∙ none
  ]
  held_step old at (Hold name) answer new st sound n q none has not = elim st.does [
    | inl x ↦ ap (λ s. lookup (eq q) s.idle) x.new_is ∙ none
    | inr (inl x) ↦ gone_none (eq x.0 q) (lookup (eq q) old.idle) (lookup (eq q) new.idle)
        (ap (lookup (eq q)) x.1.idle ∙ lookup_removed laws q x.0 old.idle st.distinct.idle) none
    | inr (inr x) ↦ ap (λ s. lookup (eq q) s.idle) x.1.new_is ∙ none
  ]
  held_step old at (Release name) answer new st sound n q none has not = elim st.does [
    | inl x ↦ ap (λ s. lookup (eq q) s.idle) x.new_is ∙ none
    | inr (inl x) ↦ still_none (eq x.0 q) (idle_at name at) (lookup (eq q) old.idle) (lookup (eq q) new.idle)
        (ap (lookup (eq q)) x.1.idle ∙ lookup_first laws q x.0 (idle_at name at) old.idle)
        (λ e. let same = alike laws old x.0 q e in let own = sound.tied.back name x.0 x.1.is_held.keyed in
        let is : name ≡ n = cc in not (ap Release is)) none
    | inr (inr x) ↦ ap (λ s. lookup (eq q) s.idle) x.1.new_is ∙ none
  ]
  held_step old at (Retire name) answer new st sound n q none has not = elim st.does [
    | inl x ↦ ap (λ s. lookup (eq q) s.idle) x.new_is ∙ none
    | inr x ↦ gone_none (eq x.0 q) (lookup (eq q) old.idle) (lookup (eq q) new.idle)
        (ap (lookup (eq q)) x.1.idle ∙ lookup_removed laws q x.0 old.idle st.distinct.idle) none
  ]
