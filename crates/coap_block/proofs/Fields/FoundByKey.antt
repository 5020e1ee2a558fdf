-- Partial bodies in a list, found by their keys.
use Rattle.std.proofs.Common.{◌≡◌, ◌⊎◌, inl, inr, ◌∙◌, ℕ, suc, Bool, true, false, ◌&&◌, ◌==◌, nat_le, ◌+◌, ◌-◌, ◌<◌}
use Rattle.std.proofs.Common.{◌≤◌, ◌++◌, List, [], ◌∷◌, length, set, get_or, Option, Some, None, option_map}
use Rattle.std.proofs.Common.{if◌then◌else◌, refl, ap, sym, subst, arith}
use Rattle.std.specs.List.{remove}
use Rattle.std.proofs.lemmas.Bool.Decides.{nat_tests}
use Rattle.std.proofs.lemmas.List.Elements.{filter-append}
use Rattle.coap_block.specs.AssemblyState.{Key, PartialBody, same_key, is_live, forgotten, partial_of, without_key, put}
use Rattle.coap_block.specs.AssemblyState.{bytes_of, joined_before, with_payload}
use Rattle.coap_block.specs.declared.partial.TheConstants.{PARTIAL_LIFETIME_MS as partial_lifetime}
use Rattle.coap_block.specs.AssemblyKept.{is_there, place_of, changed_at, grown, begun}
use Rattle.coap_block.proofs.Facts.Keys.{same_key-decides}
use Rattle.coap_block.proofs.Fields.PartialsSeen.{changed_set, forgotten_twice}

-- where the first of a list is at, or in its rest
found_cases : (b : Bool) (o : Option ℕ) (i : ℕ) → (if b then Some 0 else option_map (λ (n : ℕ). n + 1) o) ≡ Some i
    → ((b ≡ true) × (i ≡ 0)) ⊎ ((b ≡ false) × ((j : ℕ) × (o ≡ Some j) × (i ≡ suc j)))
found_cases true o i h = inl (refl, cc)
found_cases false (Some j) i h = inr (refl, (j, refl, (let e : j + 1 ≡ i = cc in omega (arith, e))))
found_cases false None i h = absurd cc

none_cases : (b : Bool) (o : Option ℕ) → (if b then Some 0 else option_map (λ (n : ℕ). n + 1) o) ≡ None
    → (b ≡ false) × (o ≡ None)
none_cases true o h = absurd cc
none_cases false (Some j) h = absurd cc
none_cases false None h = (refl, refl)

and_both : (a b : Bool) → (a && b) ≡ true → (a ≡ true) × (b ≡ true)
and_both true true h = (refl, refl)
and_both true false h = absurd cc
and_both false b h = absurd cc

-- one that isn't there changes nothing of what is done behind it
out_step : (key : Key) (l s : Bool) (p : PartialBody) (xs ys : List PartialBody) → same_key p.key key ≡ s
    → (l && s) ≡ false → xs ≡ without_key key ys
    → (if l then p ∷ xs else xs) ≡ without_key key (if l then p ∷ ys else ys)
out_step key true false p xs ys is b e = rw is (ap (λ (r : List PartialBody). p ∷ r) e)
out_step key true true p xs ys is b e = absurd cc
out_step key false s p xs ys is b e = e

put_step : (new : PartialBody) (l s : Bool) (p : PartialBody) (xs ys : List PartialBody) → same_key p.key new.key ≡ s
    → (l && s) ≡ false → xs ≡ put new ys
    → (if l then p ∷ xs else xs) ≡ put new (if l then p ∷ ys else ys)
put_step new true false p xs ys is b e = rw is (ap (λ (r : List PartialBody). p ∷ r) e)
put_step new true true p xs ys is b e = absurd cc
put_step new false s p xs ys is b e = e

find_step : (key : Key) (l s : Bool) (p : PartialBody) (ys : List PartialBody) (o : Option PartialBody)
    → same_key p.key key ≡ s → (l && s) ≡ false
    → partial_of key ys ≡ o → partial_of key (if l then p ∷ ys else ys) ≡ o
find_step key true false p ys o is b e = rw is e
find_step key true true p ys o is b e = absurd cc
find_step key false s p ys o is b e = e

-- there is none
pub none_found : (key : Key) (t : ℕ) (ps : List PartialBody) → place_of key t ps ≡ None
    → partial_of key (forgotten t ps) ≡ None
none_found key t [] h = refl
none_found key t (p ∷ ps) h =
    let c = none_cases (is_there key t p) (place_of key t ps) h in
    find_step key (is_live t p) (same_key p.key key) p (forgotten t ps) None refl c.0 (none_found key t ps c.1)

pub none_out : (key : Key) (t : ℕ) (ps : List PartialBody) → place_of key t ps ≡ None
    → forgotten t ps ≡ without_key key (forgotten t ps)
none_out key t [] h = refl
none_out key t (p ∷ ps) h =
    let c = none_cases (is_there key t p) (place_of key t ps) h in
    out_step key (is_live t p) (same_key p.key key) p (forgotten t ps) (forgotten t ps) refl c.0 (none_out key t ps c.1)

-- what holds of the first one that is there and of those behind it, holds of the one that is found
by_place : (P : List PartialBody → ℕ → Type 0) (key : Key) (t : ℕ)
    → ((p : PartialBody) (ps : List PartialBody) → is_live t p ≡ true → same_key p.key key ≡ true → P (p ∷ ps) 0)
    → ((p : PartialBody) (ps : List PartialBody) (j : ℕ) → is_there key t p ≡ false → P ps j → P (p ∷ ps) (suc j))
    → (ps : List PartialBody) (i : ℕ) → place_of key t ps ≡ Some i → P ps i
by_place P key t first behind [] i h = absurd cc
by_place P key t first behind (p ∷ ps) i h =
    elim (found_cases (is_there key t p) (place_of key t ps) i h) as (λ x. P (p ∷ ps) i) [
      | inl e ↦ let both = and_both (is_live t p) (same_key p.key key) e.0 in subst (λ (n : ℕ). P (p ∷ ps) n) (sym e.1)
          (first p ps both.0 both.1)
      | inr e ↦ subst (λ (n : ℕ). P (p ∷ ps) n) (sym e.1.2)
          (behind p ps e.1.0 e.0 (by_place P key t first behind ps e.1.0 e.1.1))
    ]

-- it is the one at its place
pub place_found : (key : Key) (t : ℕ) (d : PartialBody) (ps : List PartialBody) (i : ℕ) → place_of key t ps ≡ Some i
    → partial_of key (forgotten t ps) ≡ Some (get_or ps i d)
place_found key t d = by_place (λ ps i. partial_of key (forgotten t ps) ≡ Some (get_or ps i d)) key t
    (λ p ps live same. rw (live, same) refl)
    (λ p ps j out e. find_step key (is_live t p) (same_key p.key key) p (forgotten t ps)
    (Some (get_or ps j d)) refl out e)

pub place_within : (key : Key) (t : ℕ) (ps : List PartialBody) (i : ℕ) → place_of key t ps ≡ Some i → i < length ps
place_within key t = by_place (λ ps i. i < length ps) key t (λ p ps live same. omega arith)
    (λ p ps j out lt. omega (arith, lt))

-- without it, the others are there as before
pub place_out : (key : Key) (t : ℕ) (ps : List PartialBody) (i : ℕ) → place_of key t ps ≡ Some i
    → forgotten t (remove ps i) ≡ without_key key (forgotten t ps)
place_out key t = by_place (λ ps i. forgotten t (remove ps i) ≡ without_key key (forgotten t ps)) key t
    (λ p ps live same. rw (live, same) refl)
    (λ p ps j out e. out_step key (is_live t p) (same_key p.key key) p (forgotten t (remove ps j))
    (forgotten t ps) refl out e)

-- another in its place
pub place_put : (new : PartialBody) (t : ℕ) → is_live t new ≡ true → (ps : List PartialBody) (i : ℕ)
    → place_of new.key t ps ≡ Some i
    → forgotten t (set ps i new) ≡ put new (forgotten t ps)
place_put new t lives = by_place (λ ps i. forgotten t (set ps i new) ≡ put new (forgotten t ps)) new.key t
    (λ p ps live same. rw (live, same, lives) refl)
    (λ p ps j out e. put_step new (is_live t p) (same_key p.key new.key) p (forgotten t (set ps j new))
    (forgotten t ps) refl out e)

-- one behind the others, where there is none of its key
absent_step : (new : PartialBody) (s : Bool) (p : PartialBody) (ps : List PartialBody) → same_key p.key new.key ≡ s
    → (if s then Some p else partial_of new.key ps) ≡ None
    → (partial_of new.key ps ≡ None → put new ps ≡ ps ++ new ∷ [])
    → (if s then new ∷ ps else p ∷ put new ps) ≡ p ∷ (ps ++ new ∷ [])
absent_step new true p ps is h e = absurd cc
absent_step new false p ps is h e = ap (λ (r : List PartialBody). p ∷ r) (e h)

pub put_absent : (new : PartialBody) (ps : List PartialBody) → partial_of new.key ps ≡ None
    → put new ps ≡ ps ++ new ∷ []
put_absent new [] h = refl
put_absent new (p ∷ ps) h = absent_step new (same_key p.key new.key) p ps refl h (put_absent new ps)

pub absent_out : (key : Key) (ps : List PartialBody) → partial_of key ps ≡ None → without_key key ps ≡ ps
absent_out key [] h = refl
absent_out key (p ∷ ps) h = absent_out_step key (same_key p.key key) p ps h (absent_out key ps)
  where
    absent_out_step : (key : Key) (s : Bool) (p : PartialBody) (ps : List PartialBody)
        → (if s then Some p else partial_of key ps) ≡ None
        → (partial_of key ps ≡ None → without_key key ps ≡ ps) → (if s then ps else p ∷ without_key key ps) ≡ p ∷ ps
    absent_out_step key true p ps h e = absurd cc
    absent_out_step key false p ps h e = ap (λ (r : List PartialBody). p ∷ r) (e h)

-- how many others there are
found_step : (key : Key) (s : Bool) (p q : PartialBody) (ps : List PartialBody)
    → (if s then Some p else partial_of key ps) ≡ Some q
    → (partial_of key ps ≡ Some q → length (without_key key ps) + 1 ≡ length ps)
    → length (if s then ps else p ∷ without_key key ps) + 1 ≡ length (p ∷ ps)
found_step key true p q ps h e = omega arith
found_step key false p q ps h e = let n = e h in omega (arith, n)

pub length_others : (key : Key) (q : PartialBody) (ps : List PartialBody) → partial_of key ps ≡ Some q
    → length (without_key key ps) + 1 ≡ length ps
length_others key q [] h = absurd cc
length_others key q (p ∷ ps) h = found_step key (same_key p.key key) p q ps h (length_others key q ps)

place_key : (key : Key) (t : ℕ) (d : PartialBody) (ps : List PartialBody) (i : ℕ) → place_of key t ps ≡ Some i
    → (get_or ps i d).key ≡ key
place_key key t d = by_place (λ ps i. (get_or ps i d).key ≡ key) key t
    (λ p ps live same. (same_key-decides p.key key).0 same)
    (λ p ps j out e. e)

over_zero : (n : ℕ) → 0 < n → (n == 0) ≡ false
over_zero n h = grind (arith, nat_tests)

at_zero : (n : ℕ) → n ≤ 0 → (n == 0) ≡ true
at_zero n h = grind (arith, nat_tests)

begun_lives : (key : Key) (bytes : List ℕ) (t : ℕ) → is_live t (begun key bytes t) ≡ true
begun_lives key bytes t = let e : nat_le (t - t) partial_lifetime ≡ true = grind (arith, nat_tests) in e

-- the bytes that a block goes behind
before_there : (key : Key) (t num : ℕ) (d : PartialBody) (ps : List PartialBody) (i : ℕ) → 0 < num
    → place_of key t ps ≡ Some i
    → joined_before key num (forgotten t ps) ≡ (get_or ps i d).bytes
before_there key t num d ps i some h =
    ap (λ (b : Bool). if b then [] else bytes_of (partial_of key (forgotten t ps))) (over_zero num some)
    ∙ ap bytes_of (place_found key t d ps i h)

before_anew : (key : Key) (num : ℕ) (ps : List PartialBody) → num ≤ 0 → joined_before key num ps ≡ []
before_anew key num ps none = ap (λ (b : Bool). if b then [] else bytes_of (partial_of key ps)) (at_zero num none)

none_before : (b : Bool) → (if b then [] else bytes_of None) ≡ []
none_before true = refl
none_before false = refl

before_first : (key : Key) (t num : ℕ) (ps : List PartialBody) → place_of key t ps ≡ None
    → joined_before key num (forgotten t ps) ≡ []
before_first key t num ps h = ap (λ (o : Option PartialBody). if num == 0 then [] else bytes_of o)
    (none_found key t ps h) ∙ none_before (num == 0)

-- the body that it ends
pub whole_there : (key : Key) (t num : ℕ) (payload : List ℕ) (p : PartialBody) (ps : List PartialBody) (i : ℕ) → 0 < num
    → place_of key t ps ≡ Some i
    → p ≡ get_or ps i p → p.bytes ++ payload ≡ with_payload key num payload (forgotten t ps)
whole_there key t num payload p ps i some h is =
    ap (λ (l : List ℕ). l ++ payload) (ap (λ (q : PartialBody). q.bytes) is
    ∙ sym (before_there key t num p ps i some h))

pub whole_anew : (key : Key) (num : ℕ) (payload : List ℕ) (ps : List PartialBody) → num ≤ 0
    → payload ≡ with_payload key num payload ps
whole_anew key num payload ps none = ap (λ (l : List ℕ). l ++ payload) (sym (before_anew key num ps none))

pub whole_first : (key : Key) (t num : ℕ) (payload : List ℕ) (ps : List PartialBody) → place_of key t ps ≡ None
    → payload ≡ with_payload key num payload (forgotten t ps)
whole_first key t num payload ps h = ap (λ (l : List ℕ). l ++ payload) (sym (before_first key t num ps h))

-- a block behind the partial body of its key
pub put_grown : (key : Key) (t num : ℕ) (payload : List ℕ) (ps : List PartialBody) (i : ℕ) → 0 < num
    → place_of key t ps ≡ Some i
    → forgotten t (changed_at (grown payload t) i ps)
    ≡ put (begun key (joined_before key num (forgotten t ps) ++ payload) t) (forgotten t ps)
put_grown key t num payload ps i some h =
    let d = begun key [] t in
    let k = place_key key t d ps i h in
    let new = grown payload t (get_or ps i d) in
    let before = before_there key t num d ps i some h in
    let same : new ≡ begun key (joined_before key num (forgotten t ps) ++ payload) t =
    λ j. record { key = k j; bytes = sym before j ++ payload; last = t } in
    let put_at : forgotten t (set ps i new) ≡ put new (forgotten t ps) =
    place_put new t (begun_lives new.key new.bytes t) ps i (ap (λ (q : Key). place_of q t ps) k ∙ h) in
    ap (λ (l : List PartialBody). forgotten t l)
    (sym (changed_set (grown payload t) ps i d (place_within key t ps i h))) ∙ put_at
    ∙ ap (λ (x : PartialBody). put x (forgotten t ps)) same

-- block 0 in place of the partial body of its key
pub put_anew : (key : Key) (t num : ℕ) (payload : List ℕ) (ps : List PartialBody) (i : ℕ) → num ≤ 0
    → place_of key t ps ≡ Some i
    → forgotten t (set ps i (begun key payload t))
    ≡ put (begun key (joined_before key num (forgotten t ps) ++ payload) t) (forgotten t ps)
put_anew key t num payload ps i none h =
    let before = before_anew key num (forgotten t ps) none in
    place_put (begun key payload t) t (begun_lives key payload t) ps i h
    ∙ ap (λ (l : List ℕ). put (begun key (l ++ payload) t) (forgotten t ps)) (sym before)

-- a block of a key that has none
pub put_first : (key : Key) (was t num : ℕ) (payload : List ℕ) (ps : List PartialBody) → was ≤ t
    → place_of key t ps ≡ None
    → forgotten t (forgotten was ps ++ begun key payload t ∷ [])
    ≡ put (begun key (joined_before key num (forgotten t ps) ++ payload) t) (forgotten t ps)
put_first key was t num payload ps le h =
    let none = none_found key t ps h in
    let before = before_first key t num ps h in
    let new = begun key payload t in
    let lives : forgotten t (new ∷ []) ≡ new ∷ [] = rw (begun_lives key payload t) refl in
    filter-append (is_live t) (forgotten was ps) (new ∷ [])
    ∙ ap (λ (l : List PartialBody). l ++ forgotten t (new ∷ [])) (forgotten_twice was t le ps)
    ∙ ap (λ (l : List PartialBody). forgotten t ps ++ l) lives
    ∙ sym (put_absent new (forgotten t ps) none)
    ∙ ap (λ (l : List ℕ). put (begun key (l ++ payload) t) (forgotten t ps)) (sym before)
