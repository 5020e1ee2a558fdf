-- What is on a list, and what the last input found.
use Rattle.std.proofs.Common.{◌≡◌, ℕ, ◌&&◌, not, Bool, true, false, Option, Some, None, List, [], ◌∷◌, ◌++◌, map}
use Rattle.std.proofs.Common.{filter, refl, ap, sym, ◌∙◌, cond}
use Rattle.std.specs.List.{cons_option}
use Rattle.coap_types.specs.declared.endpoint.Endpoint.{Endpoint}
use Rattle.coap_exchange.specs.declared.listed.Listed.{Listed}
use Rattle.coap_exchange.specs.declared.separate.Separate.{Separate}
use Rattle.coap_exchange.specs.AnswererSteps.{goes_to, without_separate}
use Rattle.coap_exchange.specs.Machine.Outstanding.{over}
use Rattle.coap_exchange.specs.Machine.Listed.{entry_if, listed, listed_before, noted, reverted}

module _ {T : Type 0} where
  dropped_one : (k : Listed T) (ks : List (Listed T)) (b : Bool) → k.now ≡ b
      → listed (filter (λ x. x.now) ks) ≡ listed ks
      → listed (cond b (k ∷ filter (λ x. x.now) ks) (filter (λ x. x.now) ks)) ≡ listed (k ∷ ks)
  dropped_one k ks true is e = ap (cons_option (entry_if k.now k.entry)) e
  dropped_one k ks false is e = e ∙ sym (ap (λ w. cons_option (entry_if w k.entry) (listed ks)) is)

  pub dropped : (ks : List (Listed T)) → listed (filter (λ k. k.now) ks) ≡ listed ks
  dropped [] = refl
  dropped (k ∷ ks) = dropped_one k ks k.now refl (dropped ks)

  pub noted_now : (ks : List (Listed T)) → listed (map noted ks) ≡ listed ks
  noted_now [] = refl
  noted_now (k ∷ ks) = ap (cons_option (entry_if k.now k.entry)) (noted_now ks)

  pub noted_before : (ks : List (Listed T)) → listed_before (map noted ks) ≡ listed ks
  noted_before [] = refl
  noted_before (k ∷ ks) = ap (cons_option (entry_if k.now k.entry)) (noted_before ks)

  pub reverted_now : (ks : List (Listed T)) → listed (map reverted ks) ≡ listed_before ks
  reverted_now [] = refl
  reverted_now (k ∷ ks) = ap (cons_option (entry_if k.before k.entry)) (reverted_now ks)

  cons_more : (o : Option T) (xs ys : List T) → cons_option o (xs ++ ys) ≡ cons_option o xs ++ ys
  cons_more None xs ys = refl
  cons_more (Some x) xs ys = refl

  -- one more at the end
  pub enlisted : (ks : List (Listed T)) (x : T)
      → listed (ks ++ record { entry = x; now = true; before = false } ∷ []) ≡ listed ks ++ x ∷ []
  enlisted [] x = refl
  enlisted (k ∷ ks) x = ap (cons_option (entry_if k.now k.entry)) (enlisted ks x)
      ∙ cons_more (entry_if k.now k.entry) (listed ks) (x ∷ [])

  pub enlisted_before : (ks : List (Listed T)) (x : T)
      → listed_before (ks ++ record { entry = x; now = true; before = false } ∷ []) ≡ listed_before ks
  enlisted_before [] x = refl
  enlisted_before (k ∷ ks) x = ap (cons_option (entry_if k.before k.entry)) (enlisted_before ks x)

-- what is taken off the list
over_one : (to : Endpoint) (id : ℕ) (k : Listed Separate) (xs : List Separate) (n g : Bool) → goes_to to id k.entry ≡ g
    → cons_option (entry_if (n && not g) k.entry) (without_separate to id xs)
    ≡ without_separate to id (cons_option (entry_if n k.entry) xs)
over_one to id k xs true true e = sym (ap (λ b. cond (not b) (k.entry ∷ without_separate to id xs)
    (without_separate to id xs)) e)
over_one to id k xs true false e = sym (ap (λ b. cond (not b) (k.entry ∷ without_separate to id xs)
    (without_separate to id xs)) e)
over_one to id k xs false g e = refl

pub over_is : (to : Endpoint) (id : ℕ) (ks : List (Listed Separate))
    → listed (map (over to id) ks) ≡ without_separate to id (listed ks)
over_is to id [] = refl
over_is to id (k ∷ ks) = ap (cons_option (entry_if (k.now && not (goes_to to id k.entry)) k.entry)) (over_is to id ks)
    ∙ over_one to id k (listed ks) k.now (goes_to to id k.entry) refl

-- .. and what the last input found stays
pub over_before : (to : Endpoint) (id : ℕ) (ks : List (Listed Separate))
    → listed_before (map (over to id) ks) ≡ listed_before ks
over_before to id [] = refl
over_before to id (k ∷ ks) = ap (cons_option (entry_if k.before k.entry)) (over_before to id ks)
