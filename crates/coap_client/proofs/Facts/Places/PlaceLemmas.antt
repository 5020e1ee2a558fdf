-- Counting numbers in what a client keeps.
use Rattle.std.proofs.Common.{◌≡◌, ◌≤◌, ℕ, ◌+◌, Bool, true, false, cond, not, Option, Some, List, [], ◌∷◌, ◌++◌, map}
use Rattle.std.proofs.Common.{refl, ap, sym, subst, ◌∙◌, arith, is_some}
use Rattle.std.specs.Prelude.{filter, ◌==◌}
use Rattle.std.specs.Option.{option_map}
use Rattle.std.specs.Cmp.{unsigned_Decides}
use Rattle.coap_exchange.specs.Tokens.{same_token}
use Rattle.coap_exchange.proofs.Facts.SameToken.{same_token_is}
use Rattle.coap_client.specs.Own.{Operation, Calling, Registering, Fetching, Cancelling, Dropped, Observation}
use Rattle.coap_client.specs.Observations.{observation_of, observation_with, token_of, is_cancel_of, dropped}
use Rattle.coap_client.specs.Places.{hit, in_running, in_queue, in_observations}

pub same_number : (a b : ℕ) → (a == b) ≡ true → a ≡ b
same_number a b h = (unsigned_Decides a b).0 h

pub number_self : (a : ℕ) → (a == a) ≡ true
number_self a = (unsigned_Decides a a).1 refl

pub hit_self : (a : ℕ) → hit a a ≡ 1
hit_self a = ap (λ b. cond b 1 0) (number_self a)

-- a number is there or is not
pub hits : (a n : ℕ) → (b : Bool) → (a == n) ≡ b → hit a n ≡ cond b 1 0
hits a n b h = ap (λ x. cond x 1 0) h

pub in_queue_append : (n : ℕ) (xs ys : List Operation) → in_queue n (xs ++ ys) ≡ in_queue n xs + in_queue n ys
in_queue_append n [] ys = omega arith
in_queue_append n (x ∷ xs) ys = let ih = in_queue_append n xs ys in omega (arith, ih)

pub in_observations_append : (n : ℕ) (xs ys : List Observation)
    → in_observations n (xs ++ ys) ≡ in_observations n xs + in_observations n ys
in_observations_append n [] ys = omega arith
in_observations_append n (x ∷ xs) ys = let ih = in_observations_append n xs ys in omega (arith, ih)

-- what keeps each number keeps each count
pub in_map : (n : ℕ) (f : Observation → Observation) → ((o : Observation) → (f o).number ≡ o.number)
    → (os : List Observation) → in_observations n (map f os) ≡ in_observations n os
in_map n f same [] = refl
in_map n f same (o ∷ os) = let ih = in_map n f same os in let k : hit (f o).number n
    ≡ hit o.number n = ap (λ x. hit x n) (same o) in omega (arith, ih, k)

-- cancels have no place of their own
pub in_uncancelled : (n k : ℕ) (ops : List Operation)
    → in_queue n (filter (λ op. not (is_cancel_of k op)) ops) ≡ in_queue n ops
in_uncancelled n k [] = refl
in_uncancelled n k (Calling number r t ∷ ops) = let ih = in_uncancelled n k ops in omega (arith, ih)
in_uncancelled n k (Registering number path ∷ ops) = let ih = in_uncancelled n k ops in omega (arith, ih)
in_uncancelled n k (Fetching number ∷ ops) = let ih = in_uncancelled n k ops in omega (arith, ih)
in_uncancelled n k (Dropped ∷ ops) = let ih = in_uncancelled n k ops in omega (arith, ih)
in_uncancelled n k (Cancelling number ∷ ops) = by (in_uncancelled n k ops) (number == k)
  where
    by : in_queue n (filter (λ op. not (is_cancel_of k op)) ops) ≡ in_queue n ops → (b : Bool)
        → in_queue n (cond (not b) (Cancelling number ∷ filter (λ op. not (is_cancel_of k op)) ops)
        (filter (λ op. not (is_cancel_of k op)) ops)) ≡ 0 + in_queue n ops
    by ih true = omega (arith, ih)
    by ih false = omega (arith, ih)

pub in_dropped : (n k : ℕ) (running : Option Operation) → in_running n (dropped k running) ≡ in_running n running
in_dropped n k (Some (Fetching number)) = by (number == k)
  where
    by : (b : Bool) → in_running n (cond b (Some Dropped) (Some (Fetching number))) ≡ 0
    by true = refl
    by false = refl
in_dropped n k _ = refl

-- without a number

abbrev pub without : ℕ → List Observation → List Observation
without k os = filter (λ o. not (o.number == k)) os

pub in_without_other : (n k : ℕ) → (k == n) ≡ false → (os : List Observation)
    → in_observations n (without k os) ≡ in_observations n os
in_without_other n k other [] = refl
in_without_other n k other (o ∷ os) = by (in_without_other n k other os) (o.number == k) refl
  where
    by : in_observations n (without k os) ≡ in_observations n os → (b : Bool) → (o.number == k) ≡ b
        → in_observations n (cond (not b) (o ∷ without k os) (without k os)) ≡ hit o.number n + in_observations n os
    by ih true h =
        let z : hit o.number n ≡ 0 = ap (λ x. hit x n) (same_number o.number k h) ∙ hits k n false other in
        omega (arith, ih, z)
    by ih false h = omega (arith, ih)

pub in_without_self : (k : ℕ) (os : List Observation) → in_observations k (without k os) ≡ 0
in_without_self k [] = refl
in_without_self k (o ∷ os) = by (in_without_self k os) (o.number == k) refl
  where
    by : in_observations k (without k os) ≡ 0 → (b : Bool) → (o.number == k) ≡ b
        → in_observations k (cond (not b) (o ∷ without k os) (without k os)) ≡ 0
    by ih true h = ih
    by ih false h = let z = hits o.number k false h in omega (arith, ih, z)

-- where it is there once, it is one less
pub in_without : (n k : ℕ) (os : List Observation) → in_observations k os ≡ 1
    → in_observations n (without k os) + hit k n ≡ in_observations n os
in_without n k os once = by (k == n) refl
  where
    by : (b : Bool) → (k == n) ≡ b → in_observations n (without k os) + hit k n ≡ in_observations n os
    by true h =
        let same = same_number k n h in
        subst (λ x. in_observations x (without k os) + hit k x ≡ in_observations x os) same
        (let z = in_without_self k os in let y = hit_self k in omega (arith, once, z, y))
    by false h = let z = hits k n false h in let e = in_without_other n k h os in omega (arith, z, e)

-- an observation that is found
pub found_by_number : (k : ℕ) (os : List Observation) → is_some (observation_of k os) ≡ true → 1 ≤ in_observations k os
found_by_number k [] h = absurd (cc h)
found_by_number k (o ∷ os) h = by (found_by_number k os) (o.number == k) refl h
  where
    by : (is_some (observation_of k os) ≡ true → 1 ≤ in_observations k os) → (b : Bool) → (o.number == k) ≡ b
        → is_some (cond b (Some o) (observation_of k os)) ≡ true → 1 ≤ hit o.number k + in_observations k os
    by f true e h = let z = hits o.number k true e in omega (arith, z)
    by f false e h = let ih = f h in omega (arith, ih)

pub found_by_token : (token : List ℕ) (os : List Observation) (o : Observation) → observation_with token os ≡ Some o
    → (token ≡ o.token) × (1 ≤ in_observations o.number os)
found_by_token token [] o h = absurd (cc h)
found_by_token token (p ∷ os) o h = by (found_by_token token os o) (same_token token p.token) refl h
  where
    by : (observation_with token os ≡ Some o → (token ≡ o.token) × (1 ≤ in_observations o.number os)) → (b : Bool)
        → same_token token p.token ≡ b → cond b (Some p) (observation_with token os) ≡ Some o
        → (token ≡ o.token) × (1 ≤ hit p.number o.number + in_observations o.number os)
    by f true e h =
        let same : p ≡ o = cc h in
        let z : hit p.number o.number ≡ 1 = ap (λ (x : Observation). hit x.number o.number) same ∙ hit_self o.number in
        (same_token_is token p.token e ∙ ap (λ (x : Observation). x.token) same, omega (arith, z))
    by f false e h = let ih = f h in let z = ih.1 in (ih.0, omega (arith, z))

-- .. by its number too, where no other has that
pub number_of_found : (token : List ℕ) (os : List Observation) (o : Observation) → observation_with token os ≡ Some o
    → in_observations o.number os ≤ 1 → observation_of o.number os ≡ Some o
number_of_found token [] o h once = absurd (cc h)
number_of_found token (p ∷ os) o h once = by (number_of_found token os o) (same_token token p.token) refl h
  where
    by : (observation_with token os ≡ Some o → in_observations o.number os ≤ 1 → observation_of o.number os ≡ Some o)
        → (b : Bool) → same_token token p.token ≡ b → cond b (Some p) (observation_with token os) ≡ Some o
        → cond (p.number == o.number) (Some p) (observation_of o.number os) ≡ Some o
    by f true e h =
        let same : p ≡ o = cc h in
        ap (λ b. cond b (Some p) (observation_of o.number os))
        (ap (λ (x : Observation). x.number == o.number) same ∙ number_self o.number) ∙ ap (λ x. Some x) same
    by f false e h =
        let there = (found_by_token token os o h).1 in
        let less : in_observations o.number os ≤ 1 = omega (arith, once) in
        let ih = f h less in
        other (p.number == o.number) refl there ih
      where
        other : (b : Bool) → (p.number == o.number) ≡ b → 1 ≤ in_observations o.number os
            → observation_of o.number os ≡ Some o → cond b (Some p) (observation_of o.number os) ≡ Some o
        other true e there ih = let z = hits p.number o.number true e in absurd (omega (arith, z, there, once))
        other false e there ih = ih

-- the token of an observation stays

abbrev tokens : Option Observation → Option (List ℕ)
tokens x = option_map (λ (y : Observation). y.token) x

pub token_of_map : (k : ℕ) (f : Observation → Observation) → ((o : Observation) → (f o).number ≡ o.number)
    → ((o : Observation) → (f o).token ≡ o.token) → (os : List Observation) → token_of k (map f os) ≡ token_of k os
token_of_map k f number token [] = refl
token_of_map k f number token (o ∷ os) =
    ap (λ x. option_map (λ (y : Observation). y.token) (cond (x == k) (Some (f o)) (observation_of k (map f os))))
    (number o) ∙ by (token_of_map k f number token os) (o.number == k)
  where
    by : token_of k (map f os) ≡ token_of k os → (b : Bool)
        → option_map (λ (y : Observation). y.token) (cond b (Some (f o)) (observation_of k (map f os)))
        ≡ option_map (λ (y : Observation). y.token) (cond b (Some o) (observation_of k os))
    by ih true = ap (λ x. Some x) (token o)
    by ih false = ih

pub token_of_without : (k j : ℕ) → (j == k) ≡ false → (os : List Observation)
    → token_of k (without j os) ≡ token_of k os
token_of_without k j other [] = refl
token_of_without k j other (o ∷ os) = by (token_of_without k j other os) (o.number == j) refl
  where
    by : token_of k (without j os) ≡ token_of k os → (b : Bool) → (o.number == j) ≡ b
        → token_of k (cond (not b) (o ∷ without j os) (without j os))
        ≡ tokens (cond (o.number == k) (Some o) (observation_of k os))
    by ih true e =
        let off : (o.number == k) ≡ false = ap (λ x. x == k) (same_number o.number j e) ∙ other in
        ih ∙ ap (λ b. tokens (cond b (Some o) (observation_of k os))) (sym off)
    by ih false e = at (o.number == k)
      where
        at : (b : Bool) → tokens (cond b (Some o) (observation_of k (without j os)))
            ≡ tokens (cond b (Some o) (observation_of k os))
        at true = refl
        at false = ih

pub token_there : (k : ℕ) (os : List Observation) → 1 ≤ in_observations k os
    → (token : List ℕ) × (token_of k os ≡ Some token)
token_there k [] h = absurd (omega (arith, h))
token_there k (o ∷ os) h = by (token_there k os) (o.number == k) refl
  where
    by : (1 ≤ in_observations k os → (token : List ℕ) × (token_of k os ≡ Some token)) → (b : Bool) → (o.number == k) ≡ b
        → (token : List ℕ) × (option_map (λ (y : Observation). y.token) (cond b (Some o) (observation_of k os))
        ≡ Some token)
    by f true e = (o.token, refl)
    by f false e = let z = hits o.number k false e in f (omega (arith, h, z))

-- either way the number, and the token
pub number_if : (b : Bool) (o p : Observation) → p.number ≡ o.number → (cond b p o).number ≡ o.number
number_if true o p h = h
number_if false o p h = refl

pub token_if : (b : Bool) (o p : Observation) → p.token ≡ o.token → (cond b p o).token ≡ o.token
token_if true o p h = h
token_if false o p h = refl
