-- The observers to whom a notification is due, as members of the list.
use Rattle.std.proofs.Common.{◌≡◌, inl, inr, ℕ, zero, suc, Bool, true, false, Option, Some, None, List, [], ◌∷◌, ◌++◌}
use Rattle.std.proofs.Common.{refl, ap, sym, subst, ◌∙◌, cond}
use Rattle.coap_types.specs.Past.{Ever}
use Rattle.coap_types.specs.Recognised.{has_number}
use Rattle.coap_block.specs.Whole.{Each}
use Rattle.coap_observe.specs.Observers.{Observer, AreDistinct, is_of, registration}
use Rattle.coap_observe.proofs.Facts.Registrations.{is_of-decides}
use Rattle.coap_resource.specs.Serves.{Reply}
use Rattle.coap_exchange.specs.AnswererTrace as E
use Rattle.coap_server.specs.Responses.{response_with}
use Rattle.coap_server.specs.Notifying.{marked, behind, readies}

abbrev pub IsThere : Observer → List Observer → Type 0
IsThere o os = Ever (λ y. y ≡ o) os

pub behind_there : (n : ℕ) (os : List Observer) (o : Observer) → behind n os ≡ Some o → IsThere o os
behind_there n [] o h = absurd (cc h)
behind_there zero (y ∷ os) o h = inl (cc h)
behind_there (suc n) (y ∷ os) o h = inr (behind_there n os o h)

-- what was asked last before a notification
pub readies_head : (at n : ℕ) (os : List Observer) (o : Observer) → behind n os ≡ Some o
    → (rest : List E.Call) × (readies at n os ≡ E.Ready at o.to true ∷ rest)
readies_head at n [] o h = absurd (cc h)
readies_head at zero (y ∷ os) o h = let e : y ≡ o = cc h in ([], ap (λ (z : Observer). E.Ready at z.to true ∷ []) e)
readies_head at (suc n) (y ∷ os) o h =
    let k = readies_head at n os o h in (
      k.0 ++ E.Ready at y.to false ∷ [],
      ap (λ xs. xs ++ E.Ready at y.to false ∷ []) k.1,
    )

pub marked_there : (os : List Observer) (o : Observer) → IsThere o (marked os) → IsThere o os × (o.marked ≡ true)
marked_there [] o h = absurd h
marked_there (y ∷ os) o h = by y.marked refl h (λ k. marked_there os o k)
  where
    by : (b : Bool) → y.marked ≡ b → IsThere o (cond b (y ∷ marked os) (marked os))
        → (IsThere o (marked os) → IsThere o os × (o.marked ≡ true)) → IsThere o (y ∷ os) × (o.marked ≡ true)
    by true e (inl k) f = (inl k, sym (ap (λ (z : Observer). z.marked) k) ∙ e)
    by true e (inr k) f = let g = f k in (inr g.0, g.1)
    by false e k f = let g = f k in (inr g.0, g.1)

pub there_is : (os : List Observer) (o : Observer) → AreDistinct os → IsThere o os
    → registration o.to o.token os ≡ Some o
there_is [] o d h = absurd h
there_is (y ∷ os) o d (inl e) =
    let z : is_of o.to o.token y ≡ true = (is_of-decides o.to o.token y).1
    (ap (λ (x : Observer). x.to) e, ap (λ (x : Observer). x.token) e) in
    ap (λ b. cond b (Some y) (registration o.to o.token os)) z ∙ ap (λ x. Some x) e
there_is (y ∷ os) o d (inr h) = by (is_of o.to o.token y) refl (there_is os o d.1 h)
  where
    by : (b : Bool) → is_of o.to o.token y ≡ b → registration o.to o.token os ≡ Some o
        → cond b (Some y) (registration o.to o.token os) ≡ Some o
    by true e k =
        let p = (is_of-decides o.to o.token y).0 e in
        let none : registration o.to o.token os ≡ None = ap (λ t. registration t o.token os) (sym p.0)
        ∙ (ap (λ t. registration y.to t os) (sym p.1) ∙ d.0) in
        absurd (cc (none, k))
    by false e k = k

-- Observe is among the options where it has a number
pub observe_there : (reply : Reply) (n : ℕ) (block : Option ℕ)
    → has_number 6 (response_with reply (Some n) block).options ≡ true
observe_there reply n block = by reply.tag
  where
    by : (o : Option (List ℕ)) → has_number 6 (response_with (record reply { tag = o }) (Some n) block).options ≡ true
    by None = refl
    by (Some t) = refl

pub each_there : (Q : Observer → Type 0) (os : List Observer) (o : Observer) → Each Q os → IsThere o os → Q o
each_there Q [] o h k = absurd k
each_there Q (y ∷ os) o h (inl e) = subst Q e h.0
each_there Q (y ∷ os) o h (inr k) = each_there Q os o h.1 k
