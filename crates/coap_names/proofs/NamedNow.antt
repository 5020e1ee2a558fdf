-- What a key and a name are at the moment of a datagram.
use Rattle.std.proofs.Common.{◌≡◌, ℕ, ◌-◌, inl, inr, Bool, true, cond, length, take, Option, Some, refl}
use Rattle.std.proofs.Common.{sym, ap, ◌∙◌}
use Rattle.std.specs.Cmp.{IsEquivalence}
use Rattle.std.specs.Map.{lookup}
use Rattle.coap_types.specs.declared.endpoint.Endpoint.{Endpoint}
use Rattle.coap_names.specs.declared.names.Idle.{Idle}
use Rattle.coap_names.specs.Numbered.{numbered}
use Rattle.coap_names.specs.Trace.{NameOf, Sent, Named, Did}
use Rattle.coap_names.specs.Tables.{State, idle_at, keyed, named, either}
use Rattle.coap_names.specs.Steps.{Step}
use Rattle.coap_names.proofs.IdleMoves.{looks_touched, looks_given}
use Rattle.coap_names.proofs.Sound.{unnamed}

module _ {K : Type 0} (eq : K → K → Bool) where
  -- a name to which a datagram goes is a key's, and of that moment
  pub record IsSent (at : ℕ) (n : Endpoint) (new : State K) : Type 0 where
    pub owner : K
    pub keyed : keyed new n ≡ Some owner
    pub moment : (p : Idle) → lookup (eq owner) new.idle ≡ Some p → p.at.0 ≡ at

module _ {K : Type 0} {eq : K → K → Bool} (laws : IsEquivalence eq) where
  -- what a datagram's key is named, it has, and of that moment
  pub record IsNow (at : ℕ) (n : Endpoint) (k : K) (new : State K) : Type 0 where
    pub named : named eq new k ≡ Some n
    pub moment : (p : Idle) → lookup (eq k) new.idle ≡ Some p → p.at.0 ≡ at

  first_now : (at : ℕ) (n : Endpoint) (k : K) (new : State K) (w : Idle) (o : Option Idle)
      → lookup (eq k) new.idle ≡ cond (eq k k) (Some w) o → w.name ≡ n → w.at.0 ≡ at → IsNow at n k new
  first_now at n k new w o looks name moment =
      let is : lookup (eq k) new.idle ≡ Some w = looks ∙ ap (λ b. cond b (Some w) o) (laws.refl k) in
      record {
        named = ap (λ x. either x (lookup (eq k) new.held)) is ∙ ap Some name;
        moment = λ p h. (let same : w ≡ p = cc in sym (ap (λ x. x.at.0) same) ∙ moment);
      }

  pub named_now : (old : State K) (at : ℕ) (k : K) (n : Endpoint) (new : State K)
      → Step eq old at (NameOf k) (Named n) new → IsNow at n k new
  named_now old at k n new st = elim st.does [
    | inl t ↦ first_now at n k new (idle_at t.place.name at) (lookup (eq k) old.idle)
        (looks_touched laws old at k (Named n) new st.distinct t k) (let a = t.answer_is in cc) refl
    | inr (inl x) ↦ record {
      named = ap (λ s. named eq s k) x.new_is ∙ ((λ i. either (x.idle i) (lookup (eq k) old.held))
          ∙ (x.found ∙ (let a = x.answer_is in cc)));
      moment = λ p h. absurd (let none = ap (λ s. lookup (eq k) s.idle) x.new_is ∙ x.idle in cc);
    }
    | inr (inr (inl a)) ↦ first_now at n k new (idle_at (numbered old.given) at) (lookup (eq k) old.idle)
        (looks_given laws old at k old.idle (keyed old) (Named n) new a.gives k)
        (let x = a.gives.answer_is in cc) refl
    | inr (inr (inr (inl e))) ↦ first_now at n k new (idle_at (numbered old.given) at)
        (lookup (eq k) (take (length old.idle - 1) old.idle)) (looks_given laws old at k _ _ (Named n) new e.gives k)
        (let x = e.gives.answer_is in cc) refl
    | inr (inr (inr (inr (inl f)))) ↦ absurd (let a = f.answer_is in cc)
    | inr (inr (inr (inr (inr x)))) ↦ absurd (let a = x.answer_is in cc)
  ]

  pub sent_now : (old : State K) (at : ℕ) (n : Endpoint) (new : State K) → Step eq old at (Sent n) (Did true) new
      → IsSent eq at n new
  sent_now old at n new st = elim st.does [
    | inl x ↦ absurd (let a = x.answer_is in cc)
    | inr (inl x) ↦
        let t = x.1.touches in
        record {
          owner = x.0;
          keyed = ap (λ s. keyed s n) t.new_is ∙ x.1.keyed;
          moment = (first_now at t.place.name x.0 new (idle_at t.place.name at) (lookup (eq x.0) old.idle)
              (looks_touched laws old at x.0 (Named x.1.told) new st.distinct t x.0) refl refl).moment;
        }
    | inr (inr x) ↦ record {
      owner = x.0.0;
      keyed = ap (λ s. keyed s n) x.1.new_is ∙ x.0.1.keyed;
      moment = λ p h. absurd (let none = ap (λ s. lookup (eq x.0.0) s.idle) x.1.new_is ∙ x.0.1.idle in cc);
    }
  ]

  -- a key that has a name is given that one
  pub named_same : (old : State K) (at : ℕ) (k : K) (n m : Endpoint) (new : State K)
      → Step eq old at (NameOf k) (Named m) new → named eq old k ≡ Some n → m ≡ n
  named_same old at k n m new st has = elim st.does [
    | inl t ↦ (let a = t.answer_is in
        let own : named eq old k ≡ Some t.place.name = ap (λ o. either o (lookup (eq k) old.held)) t.found in cc)
    | inr (inl x) ↦ (let a = x.answer_is in
        let own : named eq old k ≡ Some x.name = ap (λ o. either o (lookup (eq k) old.held)) x.idle ∙ x.found in cc)
    | inr (inr (inl a)) ↦ absurd (let no = unnamed laws old k a.is_new in cc)
    | inr (inr (inr (inl e))) ↦ absurd (let no = unnamed laws old k e.is_new in cc)
    | inr (inr (inr (inr (inl f)))) ↦ absurd (let a = f.answer_is in cc)
    | inr (inr (inr (inr (inr x)))) ↦ absurd (let a = x.answer_is in cc)
  ]
