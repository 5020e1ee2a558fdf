-- Walks through the places of a link.
use Rattle.std.proofs.Common.{◌≡◌, ◌∙◌, ◌+◌, ◌≤◌, ℕ, suc, List, [], ◌∷◌, ◌++◌, Option, Some, None, Bool, true}
use Rattle.std.proofs.Common.{false, arith}
use Rattle.std.proofs.Common.{ap, drop, length, refl, subst, sym, take}
use Rattle.coap_link_format.specs.Places.{after_step, next_place, walked}
use Rattle.coap_link_format.specs.declared.places.Place.{Place}

-- these bytes lead from one place to the other
abbrev pub Walks : Place → List ℕ → Place → Type 0
Walks p [] q = p ≡ q
Walks p (b ∷ bs) q = (r : Place) × (next_place p b ≡ Some r) × Walks r bs q

-- no byte leads on
abbrev pub Stops : Place → List ℕ → Type 0
Stops q [] = Unit {0}
Stops q (b ∷ bs) = next_place q b ≡ None

pub walks_on : (p q r : Place) (xs ys : List ℕ) → Walks p xs q → Walks q ys r → Walks p (xs ++ ys) r
walks_on p q r [] ys here on = subst (λ (x : Place). Walks x ys r) (sym here) on
walks_on p q r (b ∷ bs) ys w on = (w.0, w.1, walks_on w.0 q r bs ys w.2 on)

stops_at : (p q : Place) (ys : List ℕ) → p ≡ q → Stops q ys → ◌≡◌ {A = ℕ × Place} (walked p ys) (0, q)
stops_at p q [] here stops = λ i. (0, here i)
stops_at p q (y ∷ ys) here stops =
    ap (λ (o : Option Place). after_step p o (λ x. walked x ys)) (ap (λ (x : Place). next_place x y) here ∙ stops)
    ∙ (λ i. (0, here i))

pub walked_far : (p q : Place) (xs ys : List ℕ) → Walks p xs q → Stops q ys
    → ◌≡◌ {A = ℕ × Place} (walked p (xs ++ ys)) (length xs, q)
walked_far p q [] ys here stops = stops_at p q ys here stops
walked_far p q (b ∷ bs) ys w stops =
    ap (λ (o : Option Place). after_step p o (λ x. walked x (bs ++ ys))) w.1
    ∙ (λ i. let r = walked_far w.0 q bs ys w.2 stops i in (suc r.0, r.1))

-- what a walk finds
pub record Found (p : Place) (text : List ℕ) (r : ℕ × Place) : Type 0 where
  pub walks : Walks p (take r.0 text) r.1
  pub stops : Stops r.1 (drop r.0 text)
  pub within : r.0 ≤ length text

found_step : (p : Place) (b : ℕ) (bs : List ℕ) (o : Option Place) → next_place p b ≡ o
    → ((q : Place) → Found q bs (walked q bs)) → Found p (b ∷ bs) (after_step p o (λ q. walked q bs))
found_step p b bs None is rest = record { walks = refl; stops = is; within = omega arith }
found_step p b bs (Some q) is rest =
    let f = rest q in
    let h = f.within in
    record { walks = (q, is, f.walks); stops = f.stops; within = omega (arith, h) }

pub found : (p : Place) (text : List ℕ) → Found p text (walked p text)
found p [] = record { walks = refl; stops = tt; within = omega arith }
found p (b ∷ bs) = found_step p b bs (next_place p b) refl (λ q. found q bs)
