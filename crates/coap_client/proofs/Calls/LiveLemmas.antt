-- The live observations of a client, by their places.
use Rattle.std.proofs.Common.{◌≡◌, ◌≤◌, ◌<◌, ℕ, zero, suc, ◌+◌, Bool, true, false, cond, not, Option, Some, None, List}
use Rattle.std.proofs.Common.{[], ◌∷◌, filter, length, drop, remove, set, slice_get, map, ap, sym, ◌∙◌, refl, arith}
use Rattle.std.proofs.Common.{Bor, option_copied}
use Rattle.std.proofs.lemmas.Bool.{eq-eqb, ne_eqb}
use Rattle.std.specs.Prelude.{◌==◌, is_some}
use Rattle.coap_exchange.specs.Tokens.{same_token}
use Rattle.std.specs.Option.{option_map}
use Rattle.coap_client.specs.Own.{Observation}
use Rattle.coap_client.specs.Observations.{observation_of, observation_with, to_fetch}
use Rattle.coap_client.specs.Places.{in_observations}
use Rattle.coap_client.specs.Object.CallAnswers.{place_in}

module _ {X : Type 0} where
  behind_suc : (xs : List X) (i : ℕ) (x : X) → slice_get xs i ≡ Some x → drop i xs ≡ x ∷ drop (suc i) xs
  behind_suc [] i x h = absurd (cc h)
  behind_suc (y ∷ xs) zero x h = let e : y ≡ x = cc h in ap (λ z. z ∷ xs) e
  behind_suc (y ∷ xs) (suc i) x h = behind_suc xs i x h

  -- what stands at a place, and behind it
  pub behind : (xs : List X) (i : ℕ) (x : X) → slice_get xs i ≡ Some x → drop i xs ≡ x ∷ drop (i + 1) xs
  behind xs i x h = let next : suc i ≡ i + 1 = omega arith in behind_suc xs i x h ∙ ap (λ k. x ∷ drop k xs) next

  pub map_remove : {Y : Type 0} (f : X → Y) (xs : List X) (i : ℕ) → map f (remove xs i) ≡ remove (map f xs) i
  map_remove f [] zero = refl
  map_remove f [] (suc i) = refl
  map_remove f (x ∷ xs) zero = refl
  map_remove f (x ∷ xs) (suc i) = ap (λ l. f x ∷ l) (map_remove f xs i)

  pub map_set : {Y : Type 0} (f : X → Y) (xs : List X) (i : ℕ) (x : X) → map f (set xs i x) ≡ set (map f xs) i (f x)
  map_set f [] i x = refl
  map_set f (y ∷ xs) zero x = refl
  map_set f (y ∷ xs) (suc i) x = ap (λ l. f y ∷ l) (map_set f xs i x)

-- the place of an observation, among those from a place on

pub place_here : (f number : ℕ) (os rest : List Observation) (o : Observation) → os ≡ o ∷ rest → o.number ≡ number
    → Some f ≡ option_map (λ k. f + k) (place_in number os)
place_here f number os rest o is here =
    let none : f ≡ f + 0 = omega arith in
    ap (λ k. Some k) none
    ∙ (ap (λ b. option_map (λ k. f + k) (cond b (Some 0) (option_map (λ k. 1 + k) (place_in number rest))))
    (sym (eq-eqb o.number number here))
    ∙ ap (λ l. option_map (λ k. f + k) (place_in number l)) (sym is))

further : (f : ℕ) (p : Option ℕ) → option_map (λ k. f + 1 + k) p ≡ option_map (λ k. f + k) (option_map (λ k. 1 + k) p)
further f None = refl
further f (Some k) = ap (λ n. Some n) (omega arith)

pub place_behind : (f number : ℕ) (os rest : List Observation) (o : Observation) → os ≡ o ∷ rest
    → (o.number ≡ number → ⊥)
    → option_map (λ k. f + 1 + k) (place_in number rest) ≡ option_map (λ k. f + k) (place_in number os)
place_behind f number os rest o is other =
    further f (place_in number rest)
    ∙ (ap (λ b. option_map (λ k. f + k) (cond b (Some 0) (option_map (λ k. 1 + k) (place_in number rest))))
    (sym (ne_eqb o.number number other))
    ∙ ap (λ l. option_map (λ k. f + k) (place_in number l)) (sym is))

-- the observation of a token

pub with_here : (token : List ℕ) (os rest : List Observation) (o : Observation) → os ≡ o ∷ rest
    → same_token token o.token ≡ true → Some o ≡ observation_with token os
with_here token os rest o is here = ap (λ b. cond b (Some o) (observation_with token rest)) (sym here)
    ∙ ap (observation_with token) (sym is)

pub with_behind : (token : List ℕ) (os rest : List Observation) (o : Observation) → os ≡ o ∷ rest
    → same_token token o.token ≡ false → observation_with token rest ≡ observation_with token os
with_behind token os rest o is other = ap (λ b. cond b (Some o) (observation_with token rest)) (sym other)
    ∙ ap (observation_with token) (sym is)

pub shown_copied : {X Y : Type 0} (f : X → Y) (r : Option (Bor X))
    → option_map (λ o. f o.now) r ≡ option_map f (option_copied r)
shown_copied f None = refl
shown_copied f (Some x) = refl

-- the first for which something is to be fetched

pub fetch_here : (os rest : List Observation) (o : Observation) → os ≡ o ∷ rest → is_some o.rest ≡ true
    → Some o.number ≡ to_fetch os
fetch_here os rest o is here = ap (λ b. cond b (Some o.number) (to_fetch rest)) (sym here) ∙ ap to_fetch (sym is)

pub fetch_behind : (os rest : List Observation) (o : Observation) → os ≡ o ∷ rest → is_some o.rest ≡ false
    → to_fetch rest ≡ to_fetch os
fetch_behind os rest o is other = ap (λ b. cond b (Some o.number) (to_fetch rest)) (sym other) ∙ ap to_fetch (sym is)

-- the observation of a number is that at its place

mapped : (o : Option ℕ) (p : ℕ) → option_map (λ k. 1 + k) o ≡ Some p → (k : ℕ) × (o ≡ Some k) × (p ≡ suc k)
mapped None p h = absurd (cc h)
mapped (Some k) p h = let e : 1 + k ≡ p = cc h in (k, refl, omega (arith, e))

mapped_none : (o : Option ℕ) → option_map (λ k. 1 + k) o ≡ None → o ≡ None
mapped_none None h = refl
mapped_none (Some k) h = absurd (cc h)

pub found_none : (number : ℕ) (os : List Observation) → place_in number os ≡ None → observation_of number os ≡ None
found_none number [] h = refl
found_none number (o ∷ os) h = by (o.number == number) (found_none number os) h
  where
    by : (b : Bool) → (place_in number os ≡ None → observation_of number os ≡ None)
        → cond b (Some 0) (option_map (λ k. 1 + k) (place_in number os)) ≡ None
        → cond b (Some o) (observation_of number os) ≡ None
    by true ih h = absurd (cc h)
    by false ih h = ih (mapped_none (place_in number os) h)

pub found_at : (number : ℕ) (os : List Observation) (p : ℕ) → place_in number os ≡ Some p
    → slice_get os p ≡ observation_of number os
found_at number [] p h = absurd (cc h)
found_at number (o ∷ os) p h = by (o.number == number) (λ k. found_at number os k) h
  where
    by : (b : Bool) → ((k : ℕ) → place_in number os ≡ Some k → slice_get os k ≡ observation_of number os)
        → cond b (Some 0) (option_map (λ k. 1 + k) (place_in number os)) ≡ Some p
        → slice_get (o ∷ os) p ≡ cond b (Some o) (observation_of number os)
    by true ih h = let e : 0 ≡ p = cc h in ap (λ k. slice_get (o ∷ os) k) (sym e)
    by false ih h = let m = mapped (place_in number os) p h in ap (λ k. slice_get (o ∷ os) k) m.2 ∙ ih m.0 m.1

pub place_within : (number : ℕ) (os : List Observation) (p : ℕ) → place_in number os ≡ Some p → p < length os
place_within number [] p h = absurd (cc h)
place_within number (o ∷ os) p h = by (o.number == number) (λ k. place_within number os k) h
  where
    by : (b : Bool) → ((k : ℕ) → place_in number os ≡ Some k → k < length os)
        → cond b (Some 0) (option_map (λ k. 1 + k) (place_in number os)) ≡ Some p → p < length (o ∷ os)
    by true ih h = let e : 0 ≡ p = cc h in omega (arith, e)
    by false ih h = let m = mapped (place_in number os) p h in let a = ih m.0 m.1 in let b = m.2 in omega (arith, a, b)

-- what becomes of the observation of a number, of which there is one at most

module _ (number : ℕ) (f : Observation → Observation) where
  pub none_changed : (os : List Observation) → place_in number os ≡ None
      → map (λ o. cond (o.number == number) (f o) o) os ≡ os
  none_changed [] h = refl
  none_changed (o ∷ os) h = by (o.number == number) (none_changed os) h
    where
      by : (b : Bool) → (place_in number os ≡ None → map (λ o. cond (o.number == number) (f o) o) os ≡ os)
          → cond b (Some 0) (option_map (λ k. 1 + k) (place_in number os)) ≡ None
          → cond b (f o) o ∷ map (λ o. cond (o.number == number) (f o) o) os ≡ o ∷ os
      by true ih h = absurd (cc h)
      by false ih h = ap (λ l. o ∷ l) (ih (mapped_none (place_in number os) h))

  absent : (os : List Observation) → in_observations number os ≤ 0 → place_in number os ≡ None
  absent [] h = refl
  absent (o ∷ os) h = by (o.number == number) (absent os) h
    where
      by : (b : Bool) → (in_observations number os ≤ 0 → place_in number os ≡ None)
          → cond b 1 0 + in_observations number os ≤ 0
          → cond b (Some 0) (option_map (λ k. 1 + k) (place_in number os)) ≡ None
      by true ih h = absurd (omega (arith, h))
      by false ih h = ap (option_map (λ k. 1 + k)) (ih (omega (arith, h)))

  pub one_changed : (os : List Observation) (p : ℕ) (o : Observation) → place_in number os ≡ Some p
      → in_observations number os ≤ 1 → slice_get os p ≡ Some o
      → set os p (f o) ≡ map (λ o. cond (o.number == number) (f o) o) os
  one_changed [] p o h one found = absurd (cc h)
  one_changed (q ∷ os) p o h one found = by (q.number == number) (λ k. one_changed os k o)
      (λ a. none_changed os (absent os a)) p h one found
    where
      by : (b : Bool) → ((k : ℕ) → place_in number os ≡ Some k → in_observations number os ≤ 1 → slice_get os k ≡ Some o
          → set os k (f o) ≡ map (λ o. cond (o.number == number) (f o) o) os)
          → (in_observations number os ≤ 0 → map (λ o. cond (o.number == number) (f o) o) os ≡ os)
          → (p : ℕ) → cond b (Some 0) (option_map (λ k. 1 + k) (place_in number os)) ≡ Some p
          → cond b 1 0 + in_observations number os ≤ 1 → slice_get (q ∷ os) p ≡ Some o
          → set (q ∷ os) p (f o) ≡ cond b (f q) q ∷ map (λ o. cond (o.number == number) (f o) o) os
      by true ih none zero h one found = let e : q ≡ o = cc found in
          ap (λ r. f r ∷ os) (sym e) ∙ ap (λ l. f q ∷ l) (sym (none (omega (arith, one))))
      by true ih none (suc p) h one found = absurd (cc h)
      by false ih none zero h one found = let m = mapped (place_in number os) zero h in let b = m.2 in
          absurd (omega (arith, b))
      by false ih none (suc p) h one found =
          let m = mapped (place_in number os) (suc p) h in
          let same : m.0 ≡ p = (let b = m.2 in omega (arith, b)) in
          ap (λ l. q ∷ l) (ih p (m.1 ∙ ap (λ k. Some k) same) (omega (arith, one)) found)

pub none_removed : (number : ℕ) (os : List Observation) → place_in number os ≡ None
    → os ≡ filter (λ o. not (o.number == number)) os
none_removed number [] h = refl
none_removed number (o ∷ os) h = by (o.number == number) (none_removed number os) h
  where
    by : (b : Bool) → (place_in number os ≡ None → os ≡ filter (λ o. not (o.number == number)) os)
        → cond b (Some 0) (option_map (λ k. 1 + k) (place_in number os)) ≡ None
        → o ∷ os ≡ cond (not b) (o ∷ filter (λ o. not (o.number == number)) os)
        (filter (λ o. not (o.number == number)) os)
    by true ih h = absurd (cc h)
    by false ih h = ap (λ l. o ∷ l) (ih (mapped_none (place_in number os) h))

pub one_removed : (number : ℕ) (os : List Observation) (p : ℕ) → place_in number os ≡ Some p
    → in_observations number os ≤ 1 → remove os p ≡ filter (λ o. not (o.number == number)) os
one_removed number [] p h one = absurd (cc h)
one_removed number (o ∷ os) p h one = by (o.number == number) (λ k. one_removed number os k)
    (λ a. none_removed number os (absent number (λ o. o) os a)) p h one
  where
    by : (b : Bool) → ((k : ℕ) → place_in number os ≡ Some k → in_observations number os ≤ 1
        → remove os k ≡ filter (λ o. not (o.number == number)) os)
        → (in_observations number os ≤ 0 → os ≡ filter (λ o. not (o.number == number)) os)
        → (p : ℕ) → cond b (Some 0) (option_map (λ k. 1 + k) (place_in number os)) ≡ Some p
        → cond b 1 0 + in_observations number os ≤ 1
        → remove (o ∷ os) p ≡ cond (not b) (o ∷ filter (λ o. not (o.number == number)) os)
        (filter (λ o. not (o.number == number)) os)
    by true ih none zero h one = none (omega (arith, one))
    by true ih none (suc p) h one = absurd (cc h)
    by false ih none zero h one = let m = mapped (place_in number os) zero h in let b = m.2 in absurd (omega (arith, b))
    by false ih none (suc p) h one =
        let m = mapped (place_in number os) (suc p) h in
        let same : m.0 ≡ p = (let b = m.2 in omega (arith, b)) in
        ap (λ l. o ∷ l) (ih p (m.1 ∙ ap (λ k. Some k) same) (omega (arith, one)))
