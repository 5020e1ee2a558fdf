-- Observers that are passed over, and the first that isn't (RFC 7641, section 4.5).
use Rattle.std.proofs.Common.{◌≡◌, ◌≤◌, ℕ, zero, suc, ◌+◌, Bool, true, false, Option, Some, None, List, [], ◌∷◌}
use Rattle.std.proofs.Common.{◌++◌, length, cond, refl, ap, sym, subst, ◌∙◌, add-one, arith}
use Rattle.std.proofs.lemmas.Bool.{or_parts}
use Rattle.std.specs.List.{list_any, slice_get}
use Rattle.std.specs.Option.{option_map}
use Rattle.coap_types.specs.declared.endpoint.Endpoint.{Endpoint}
use Rattle.coap_observe.specs.Notices.{but_noted}
use Rattle.coap_observe.specs.Observers.{Observer}
use Rattle.coap_exchange.specs.AnswererLaw as X
use Rattle.coap_exchange.specs.AnswererTrace as E
use Rattle.coap_server.specs.Notifying.{behind, marked, readies}

-- what is told of is all of an observer but its last NON
pub record Whole (r : Option Observer) (n : Observer) : Type 0 where
  pub observer : Observer
  pub is : r ≡ Some observer
  pub told : n ≡ but_noted observer

pub whole_of : (r : Option Observer) (n : Observer) → Some n ≡ option_map but_noted r → Whole r n
whole_of None n h = absurd (cc h)
whole_of (Some o) n h = record { observer = o; is = refl; told = cc h }

pub nobody : (r : Option Observer) → None ≡ option_map but_noted r → r ≡ None
nobody None h = refl
nobody (Some o) h = absurd (cc h)

-- what is asked about so many, none of whom can be notified
abbrev pub passing : ℕ → ℕ → List Observer → List E.Call
passing at zero os = []
passing at (suc passed) [] = []
passing at (suc passed) (o ∷ os) = passing at passed os ++ E.Ready at o.to false ∷ []

one_behind : (at n : ℕ) (os : List Observer) (o : Observer) → slice_get os n ≡ Some o
    → passing at (suc n) os ≡ E.Ready at o.to false ∷ passing at n os
one_behind at n [] o h = absurd (cc h)
one_behind at zero (x ∷ os) o h = let e : x ≡ o = cc h in ap (λ (z : Observer). E.Ready at z.to false ∷ []) e
one_behind at (suc n) (x ∷ os) o h = ap (λ (z : List E.Call). z ++ E.Ready at x.to false ∷ []) (one_behind at n os o h)

-- one more is passed over
pub one_more : (at n : ℕ) (os : List Observer) (o : Observer) → slice_get os n ≡ Some o
    → passing at (n + 1) os ≡ E.Ready at o.to false ∷ passing at n os
one_more at n os o h = rw (add-one n) (one_behind at n os o h)

-- the first that isn't
pub found_behind : (n : ℕ) (os : List Observer) (o : Observer) → slice_get os n ≡ Some o → behind n os ≡ Some o
found_behind n [] o h = absurd (cc h)
found_behind zero (x ∷ os) o h = h
found_behind (suc n) (x ∷ os) o h = found_behind n os o h

pub found_asked : (at n : ℕ) (os : List Observer) (o : Observer) → slice_get os n ≡ Some o
    → readies at n os ≡ E.Ready at o.to true ∷ passing at n os
found_asked at n [] o h = absurd (cc h)
found_asked at zero (x ∷ os) o h = let e : x ≡ o = cc h in ap (λ (z : Observer). E.Ready at z.to true ∷ []) e
found_asked at (suc n) (x ∷ os) o h = ap (λ (z : List E.Call). z ++ E.Ready at x.to false ∷ [])
    (found_asked at n os o h)

-- all are
pub all_behind : (n : ℕ) (os : List Observer) → slice_get os n ≡ None → behind n os ≡ None
all_behind n [] h = refl
all_behind zero (x ∷ os) h = absurd (cc h)
all_behind (suc n) (x ∷ os) h = all_behind n os h

pub all_asked : (at n : ℕ) (os : List Observer) → slice_get os n ≡ None → readies at n os ≡ passing at n os
all_asked at zero [] h = refl
all_asked at (suc n) [] h = refl
all_asked at zero (x ∷ os) h = absurd (cc h)
all_asked at (suc n) (x ∷ os) h = ap (λ (z : List E.Call). z ++ E.Ready at x.to false ∷ []) (all_asked at n os h)

most_step : (b : Bool) (x : Observer) (xs : List Observer) (n : ℕ) → length xs ≤ n → length (cond b (x ∷ xs) xs) ≤ n + 1
most_step true x xs n h = omega (arith, h)
most_step false x xs n h = omega (arith, h)

-- no more are marked than there are
pub marked_most : (os : List Observer) → length (marked os) ≤ length os
marked_most [] = omega arith
marked_most (o ∷ os) = rw (← add-one (length os)) (most_step o.marked o (marked os) (length os) (marked_most os))

-- what was asked, and one more

module _ (old mid new : X.State) (at n : ℕ) (os : List Observer) (x : Observer)
    (there : Some x ≡ option_map but_noted (slice_get os n))
    (before : X.Exchanged old (passing at n os) mid) (b : Bool) (step : X.Step mid (E.Ready at x.to b) new) where
  abbrev found : Whole (slice_get os n) x
  found = whole_of (slice_get os n) x there

  abbrev o : Observer
  o = found.observer

  asks : (c : Bool) → b ≡ c → X.Step mid (E.Ready at o.to c) new
  asks c e = subst (λ z. X.Step mid (E.Ready at o.to z) new) e
      (subst (λ (z : Observer). X.Step mid (E.Ready at z.to b) new) found.told step)

  pub stops : b ≡ true → X.Exchanged old (readies at n os) new
  stops e = subst (λ (cs : List E.Call). X.Exchanged old cs new) (sym (found_asked at n os o found.is))
      (mid, before, asks true e)

  pub goes_on : b ≡ false → X.Exchanged old (passing at (n + 1) os) new
  goes_on e = subst (λ (cs : List E.Call). X.Exchanged old cs new) (sym (one_more at n os o found.is))
      (mid, before, asks false e)

pub all_passed : (old new : X.State) (at n : ℕ) (os : List Observer) → slice_get os n ≡ None
    → X.Exchanged old (passing at n os) new → X.Exchanged old (readies at n os) new
all_passed old new at n os none asked = subst (λ (cs : List E.Call). X.Exchanged old cs new)
    (sym (all_asked at n os none)) asked

-- where none of them can be notified, this one can't
not_taken : (p : Observer → Bool) (n : ℕ) (os : List Observer) (o : Observer) → slice_get os n ≡ Some o
    → list_any p os ≡ false → p o ≡ false
not_taken p n [] o h none = absurd (cc h)
not_taken p zero (x ∷ os) o h none = let same : x
    ≡ o = cc h in let k = or_parts (p x) (list_any p os) none in ap p (sym same) ∙ k.0
not_taken p (suc n) (x ∷ os) o h none = not_taken p n os o h (or_parts (p x) (list_any p os) none).1

pub none_taken : (p : Endpoint → Bool) (n : ℕ) (os : List Observer) (x : Observer)
    → Some x ≡ option_map but_noted (slice_get os n) → list_any (λ (o : Observer). p o.to) os ≡ false → p x.to ≡ false
none_taken p n os x h none =
    let w = whole_of (slice_get os n) x h in
    ap (λ (o : Observer). p o.to) w.told ∙ not_taken (λ (o : Observer). p o.to) n os w.observer w.is none
