-- What one call changes of the names that are held.
use Rattle.std.proofs.Common.{◌≡◌, ◌≢◌, ℕ, ◌⊎◌, inl, inr, Bool, true, false, cond, Option, Some, None, refl}
use Rattle.std.proofs.Common.{sym, ap, ◌∙◌, subst}
use Rattle.std.specs.Cmp.{IsEquivalence}
use Rattle.std.specs.Map.{lookup}
use Rattle.coap_types.specs.declared.endpoint.Endpoint.{Endpoint}
use Rattle.coap_names.specs.Trace.{Call, NameOf, Sent, Hold, Release, Retire, Answer, Did}
use Rattle.coap_names.specs.Tables.{State, keyed, either}
use Rattle.coap_names.specs.Steps.{Step}
use Rattle.coap_names.proofs.Lookups.{lookup_same}
use Rattle.coap_names.proofs.Sound.{Sound}

some_same : {X : Type 0} (o : Option X) (a b : X) → o ≡ Some a → o ≡ Some b → a ≡ b
some_same o a b x y = cc

set_or : (b : Bool) (w p : Endpoint) (o r : Option Endpoint) → r ≡ cond b (Some w) o → r ≡ Some p
    → (w ≡ p) ⊎ (o ≡ Some p)
set_or true w p o r h is = inl cc
set_or false w p o r h is = inr (sym h ∙ is)

gone_or : (b : Bool) (p : Endpoint) (o r : Option Endpoint) → r ≡ cond b None o → r ≡ Some p
    → (b ≡ false) × (o ≡ Some p)
gone_or true p o r h is = absurd cc
gone_or false p o r h is = (refl, sym h ∙ is)

module _ {K : Type 0} (eq : K → K → Bool) where
  -- it is held by this call, or was held before, and is not released or retired
  abbrev pub HeldBy : State K → Call K → Answer → K → Endpoint → Type 0
  HeldBy old call answer q n =
      ((call ≡ Hold n) × (answer ≡ Did true))
      ⊎ ((lookup (eq q) old.held ≡ Some n) × ((call ≢ Release n) × (call ≢ Retire n)))

module _ {K : Type 0} {eq : K → K → Bool} (laws : IsEquivalence eq) where
  -- who is held stands only there, and has the name
  not_idle : (s : State K) → Sound eq s → (q : K) (n : Endpoint) → lookup (eq q) s.held ≡ Some n
      → lookup (eq q) s.idle ≡ None
  not_idle s sound q n h = (elim (lookup (eq q) s.idle) as (λ o. lookup (eq q) s.idle ≡ o
      → lookup (eq q) s.idle ≡ None) [
        | None ↦ λ e. e
        | Some p ↦ λ e. absurd (let none = sound.apart q p e in cc)
      ]) refl

  owner_of : (s : State K) → Sound eq s → (q : K) (n : Endpoint) → lookup (eq q) s.held ≡ Some n
      → (k : K) × (keyed s n ≡ Some k) × (eq q k ≡ true)
  owner_of s sound q n h =
      sound.tied.forth q n (ap (λ o. either o (lookup (eq q) s.held)) (not_idle s sound q n h) ∙ h)

  -- a name that is no key's is another one
  other : (s : State K) → Sound eq s → (q : K) (n : Endpoint) → lookup (eq q) s.held ≡ Some n → (name : Endpoint)
      → keyed s name ≡ None → name ≡ n → ⊥
  other s sound q n h name nobody same =
      let on = owner_of s sound q n h in
      let none : keyed s n ≡ None = subst (λ m. keyed s m ≡ None) same nobody in
      let some = on.1 in cc

  -- the key of the name equals the one that is held with it
  owner_is : (s : State K) → Sound eq s → (q : K) (n : Endpoint) → lookup (eq q) s.held ≡ Some n → (name : Endpoint)
      (key : K) → keyed s name ≡ Some key → name ≡ n → eq q key ≡ true
  owner_is s sound q n h name key is same =
      let on = owner_of s sound q n h in
      let here : keyed s n ≡ Some key = subst (λ m. keyed s m ≡ Some key) same is in
      subst (λ k. eq q k ≡ true) (some_same (keyed s n) on.0 key on.1 here) on.2

  -- .. so it is not let go of as another's
  not_let_go : (s : State K) → Sound eq s → (q : K) (n : Endpoint) → lookup (eq q) s.held ≡ Some n → (name : Endpoint)
      (key : K) → keyed s name ≡ Some key → eq key q ≡ false → name ≡ n → ⊥
  not_let_go s sound q n h name key is apart same =
      let equal : eq key q ≡ true = laws.symm key q ∙ owner_is s sound q n h name key is same in cc

  held_from_named : (old new : State K) (key : K) (answer : Answer) (q : K) (n : Endpoint) → new.held ≡ old.held
      → lookup (eq q) new.held ≡ Some n → HeldBy eq old (NameOf key) answer q n
  held_from_named old new key answer q n same h = inr (sym (ap (lookup (eq q)) same) ∙ h, (λ e. cc, λ e. cc))

  held_from_sent : (old new : State K) (name : Endpoint) (answer : Answer) (q : K) (n : Endpoint) → new.held ≡ old.held
      → lookup (eq q) new.held ≡ Some n → HeldBy eq old (Sent name) answer q n
  held_from_sent old new name answer q n same h = inr (sym (ap (lookup (eq q)) same) ∙ h, (λ e. cc, λ e. cc))

  held_from_hold : (old new : State K) (name : Endpoint) (answer : Answer) (q : K) (n : Endpoint) → new.held ≡ old.held
      → lookup (eq q) new.held ≡ Some n → HeldBy eq old (Hold name) answer q n
  held_from_hold old new name answer q n same h = inr (sym (ap (lookup (eq q)) same) ∙ h, (λ e. cc, λ e. cc))

  held_from_release : (old : State K) (name : Endpoint) (answer : Answer) (q : K) (n : Endpoint)
      → lookup (eq q) old.held ≡ Some n → (name ≡ n → ⊥) → HeldBy eq old (Release name) answer q n
  held_from_release old name answer q n was not =
      inr (was, (λ e. (let is : name ≡ n = cc in not is), λ e. cc))

  held_from_retire : (old : State K) (name : Endpoint) (answer : Answer) (q : K) (n : Endpoint)
      → lookup (eq q) old.held ≡ Some n → (name ≡ n → ⊥) → HeldBy eq old (Retire name) answer q n
  held_from_retire old name answer q n was not =
      inr (was, (λ e. cc, λ e. (let is : name ≡ n = cc in not is)))

  pub held_from : (old : State K) (at : ℕ) (call : Call K) (answer : Answer) (new : State K)
      → Step eq old at call answer new → Sound eq old → (q : K) (n : Endpoint) → lookup (eq q) new.held ≡ Some n
      → HeldBy eq old call answer q n
  held_from old at (NameOf key) answer new st sound q n h = elim st.does [
    | inl t ↦ held_from_named old new key answer q n (ap (λ s. s.held) t.new_is) h
    | inr (inl k) ↦ held_from_named old new key answer q n (ap (λ s. s.held) k.new_is) h
    | inr (inr (inl a)) ↦ held_from_named old new key answer q n a.gives.held h
    | inr (inr (inr (inl e))) ↦ held_from_named old new key answer q n e.gives.held h
    | inr (inr (inr (inr (inl f)))) ↦ held_from_named old new key answer q n (ap (λ s. s.held) f.new_is) h
    | inr (inr (inr (inr (inr p)))) ↦ held_from_named old new key answer q n (ap (λ s. s.held) p.new_is) h
  ]
  held_from old at (Sent name) answer new st sound q n h = elim st.does [
    | inl x ↦ held_from_sent old new name answer q n (ap (λ s. s.held) x.new_is) h
    | inr (inl x) ↦ held_from_sent old new name answer q n (ap (λ s. s.held) x.1.touches.new_is) h
    | inr (inr x) ↦ held_from_sent old new name answer q n (ap (λ s. s.held) x.1.new_is) h
  ]
  held_from old at (Hold name) answer new st sound q n h = elim st.does [
    | inl x ↦ held_from_hold old new name answer q n (ap (λ s. s.held) x.new_is) h
    | inr (inl x) ↦ elim (set_or (eq x.0 q) name n (lookup (eq q) old.held) (lookup (eq q) new.held) (x.1.held q) h) [
      | inl is ↦ inl (ap Hold is, x.1.answer_is)
      | inr was ↦ held_from_hold old old name answer q n refl was
    ]
    | inr (inr x) ↦ held_from_hold old new name answer q n (ap (λ s. s.held) x.1.new_is) h
  ]
  held_from old at (Release name) answer new st sound q n h = elim st.does [
    | inl x ↦
        let was = sym (ap (λ s. lookup (eq q) s.held) x.new_is) ∙ h in
        held_from_release old name answer q n was (other old sound q n was name x.nobody)
    | inr (inl x) ↦
        let was = gone_or (eq x.0 q) n (lookup (eq q) old.held) (lookup (eq q) new.held) (x.1.held q) h in
        held_from_release old name answer q n was.1
        (not_let_go old sound q n was.1 name x.0 x.1.is_held.keyed was.0)
    | inr (inr x) ↦
        let was = sym (ap (λ s. lookup (eq q) s.held) x.1.new_is) ∙ h in
        held_from_release old name answer q n was (λ same.
        let equal = owner_is old sound q n was name x.0.0 x.0.1.keyed same in
        let none = not_idle old sound q n was in
        let some = lookup_same laws q x.0.0 old.idle equal ∙ x.0.1.found in cc)
  ]
  held_from old at (Retire name) answer new st sound q n h = elim st.does [
    | inl x ↦
        let was = sym (ap (λ s. lookup (eq q) s.held) x.new_is) ∙ h in
        held_from_retire old name answer q n was (other old sound q n was name x.nobody)
    | inr x ↦
        let was = gone_or (eq x.0 q) n (lookup (eq q) old.held) (lookup (eq q) new.held) (x.1.held q) h in
        held_from_retire old name answer q n was.1 (not_let_go old sound q n was.1 name x.0 x.1.keyed was.0)
  ]
