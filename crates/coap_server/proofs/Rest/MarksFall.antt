-- A notification makes fewer of the observers due, and nothing else makes more.
use Rattle.std.proofs.Common.{◌≡◌, ◌≤◌, ◌<◌, inl, inr, ℕ, suc, ◌&&◌, not, Bool, true, false, Option, Some, None}
use Rattle.std.proofs.Common.{List, [], ◌∷◌, length, filter, refl, ap, subst, ◌∙◌, cond, sym, arith}
use Rattle.coap_types.specs.declared.endpoint.Endpoint.{Endpoint}
use Rattle.coap_observe.specs.Observers.{Observer, is_of, noted_by, noted_to, removed, sent_to, unmarked_by}
use Rattle.coap_observe.proofs.Facts.DueCounts.{note_never_raises}
use Rattle.coap_observe.proofs.Facts.Registrations.{is_of-decides}
use Rattle.coap_resource.specs.Content.{Held}
use Rattle.coap_exchange.specs.declared.answerer.Ended.{Ended}
use Rattle.coap_server.specs.Observers.{unless_ended}
use Rattle.coap_server.specs.Notifying.{marked, notified}
use Rattle.coap_server.proofs.Facts.Observing.MarkedObservers.{IsThere}
use Rattle.coap_server.proofs.Facts.Observing.ObserverLists.{notified_left}

abbrev pub marks : List Observer → ℕ
marks os = length (marked os)

cons_least : (b c : Bool) (x y : Observer) (xs ys : List Observer) → length xs ≤ length ys → (b ≡ true → c ≡ true)
    → length (cond b (x ∷ xs) xs) ≤ length (cond c (y ∷ ys) ys)
cons_least true true x y xs ys h f = omega (arith, h)
cons_least true false x y xs ys h f = let e = f refl in absurd (cc e)
cons_least false true x y xs ys h f = omega (arith, h)
cons_least false false x y xs ys h f = h

-- what a list loses
dropped_least : (p : Observer → Bool) (os : List Observer) → marks (filter p os) ≤ marks os
dropped_least p [] = omega arith
dropped_least p (o ∷ os) = by (p o) o.marked refl (dropped_least p os)
  where
    by : (b c : Bool) → o.marked ≡ c → marks (filter p os) ≤ marks os
        → marks (cond b (o ∷ filter p os) (filter p os)) ≤ length (cond c (o ∷ marked os) (marked os))
    by true c e h = subst (λ z. length (cond z (o ∷ marked (filter p os)) (marked (filter p os))) ≤ length
        (cond c (o ∷ marked os) (marked os))) (sym e) (cons_least c c o o (marked (filter p os)) (marked os) h (λ k. k))
    by false true e h = omega (arith, h)
    by false false e h = h

dropped_fewer : (p : Observer → Bool) (o : Observer) (os : List Observer) → o.marked ≡ true → p o ≡ false → IsThere o os
    → marks (filter p os) < marks os
dropped_fewer p o [] m n h = absurd h
dropped_fewer p o (y ∷ os) m n (inl e) =
    let k = dropped_least p os in
    let out : p y ≡ false = ap p e ∙ n in
    let there : y.marked ≡ true = ap (λ (z : Observer). z.marked) e ∙ m in
    let left : marks (filter p (y ∷ os)) ≡ marks (filter p os) =
    ap (λ b. marks (cond b (y ∷ filter p os) (filter p os))) out in
    let was : marks (y ∷ os) ≡ suc (marks os) = ap (λ b. length (cond b (y ∷ marked os) (marked os))) there in
    omega (arith, k, left, was)
dropped_fewer p o (y ∷ os) m n (inr h) = by (p y) y.marked refl (dropped_fewer p o os m n h)
  where
    by : (b c : Bool) → y.marked ≡ c → marks (filter p os) < marks os
        → marks (cond b (y ∷ filter p os) (filter p os)) < length (cond c (y ∷ marked os) (marked os))
    by true true e k = let f : marks (y ∷ filter p os)
        ≡ suc (marks (filter p os)) = ap (λ z. length (cond z (y ∷ marked (filter p os)) (marked (filter p os)))) e
        in omega (arith, k, f)
    by true false e k = let f : marks (y ∷ filter p os)
        ≡ marks (filter p os) = ap (λ z. length (cond z (y ∷ marked (filter p os)) (marked (filter p os)))) e in omega
        (arith, k, f)
    by false true e k = omega (arith, k)
    by false false e k = k

sent_least : (at : ℕ) (to : Endpoint) (token : List ℕ) (con : Bool) (os : List Observer)
    → marks (sent_to at to token con os) ≤ marks os
sent_least at to token con [] = omega arith
sent_least at to token con (o ∷ os) = cons_least (o.marked && not (is_of to token o)) o.marked
    (unmarked_by at to token con o) o (marked (sent_to at to token con os)) (marked os) (sent_least at to token con os)
    (left o.marked (not (is_of to token o)))
  where
    left : (b c : Bool) → (b && c) ≡ true → b ≡ true
    left true c e = refl
    left false c e = absurd (cc e)

sent_fewer : (at : ℕ) (con : Bool) (o : Observer) (os : List Observer) → o.marked ≡ true → IsThere o os
    → marks (sent_to at o.to o.token con os) < marks os
sent_fewer at con o [] m h = absurd h
sent_fewer at con o (y ∷ os) m (inl e) =
    let k = sent_least at o.to o.token con os in
    let mine : is_of o.to o.token y ≡ true = (is_of-decides o.to o.token y).1
    (ap (λ (z : Observer). z.to) e, ap (λ (z : Observer). z.token) e) in
    let there : y.marked ≡ true = ap (λ (z : Observer). z.marked) e ∙ m in
    let gone : (y.marked && not (is_of o.to o.token y)) ≡ false = ap (λ b. b && not (is_of o.to o.token y)) there
    ∙ ap not mine in
    let left : marks (sent_to at o.to o.token con (y ∷ os)) ≡ marks (sent_to at o.to o.token con os) =
    ap (λ b. length (cond b (unmarked_by at o.to o.token con y ∷ marked (sent_to at o.to o.token con os))
    (marked (sent_to at o.to o.token con os)))) gone in
    let was : marks (y ∷ os) ≡ suc (marks os) = ap (λ b. length (cond b (y ∷ marked os) (marked os))) there in
    omega (arith, k, left, was)
sent_fewer at con o (y ∷ os) m (inr h) = by y.marked (is_of o.to o.token y) (sent_fewer at con o os m h)
  where
    by : (b c : Bool) → marks (sent_to at o.to o.token con os) < marks os
        → length (cond (b && not c) (unmarked_by at o.to o.token con y ∷ marked (sent_to at o.to o.token con os))
        (marked (sent_to at o.to o.token con os))) < length (cond b (y ∷ marked os) (marked os))
    by true true k = omega (arith, k)
    by true false k = omega (arith, k)
    by false c k = k

-- what is kept of a NON changes no mark

noted_there : (at : ℕ) (to : Endpoint) (token : List ℕ) (id : ℕ) (o : Observer) (os : List Observer) → IsThere o os
    → IsThere (noted_by at to token id o) (noted_to at to token id os)
noted_there at to token id o [] h = absurd h
noted_there at to token id o (y ∷ os) (inl e) = inl (ap (noted_by at to token id) e)
noted_there at to token id o (y ∷ os) (inr h) = inr (noted_there at to token id o os h)

non_fewer : (at id : ℕ) (o : Observer) (os : List Observer) → o.marked ≡ true → IsThere o os
    → marks (sent_to at o.to o.token false (noted_to at o.to o.token id os)) < marks os
non_fewer at id o os m h =
    let same : marks (noted_to at o.to o.token id os) ≡ marks os = note_never_raises at o.to o.token id os in
    let less = sent_fewer at false (noted_by at o.to o.token id o) (noted_to at o.to o.token id os) m
    (noted_there at o.to o.token id o os h) in
    omega (arith, same, less)

pub notified_fewer : (plain : Bool) (at id : ℕ) (held : Option Held) (o : Observer) (os : List Observer)
    → o.marked ≡ true
    → IsThere o os → marks (notified plain at id held o os) < marks os
notified_fewer plain at id held o os m h =
    let mine : is_of o.to o.token o ≡ true = (is_of-decides o.to o.token o).1 (refl, refl) in
    notified_left (λ ps. marks ps < marks os) plain at id held o os
    (dropped_fewer (λ x. not (is_of o.to o.token x)) o os m (ap not mine) h) (non_fewer at id o os m h)
    (sent_fewer at true o os m h)

pub ended_least : (e : Option Ended) (os : List Observer) → marks (unless_ended e os) ≤ marks os
ended_least None os = omega arith
ended_least (Some x) os = by x.observe
  where
    by : (b : Bool) → marks (cond b (removed x.to x.token os) os) ≤ marks os
    by true = dropped_least (λ o. not (is_of x.to x.token o)) os
    by false = omega arith
