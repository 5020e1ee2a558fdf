-- Partial bodies of which no two are of one key.
use Rattle.std.proofs.Common.{◌≡◌, ◌≢◌, ◌⊎◌, inl, inr, ◌∙◌, ℕ, Bool, true, false, ◌+◌, ◌≤◌, List, [], ◌∷◌, length}
use Rattle.std.proofs.Common.{Option, Some, None, if◌then◌else◌, refl, ap, sym, arith}
use Rattle.coap_block.specs.AssemblyState.{Key, PartialBody, same_key, is_live, forgotten, partial_of, without_key, put}
use Rattle.coap_block.specs.AssemblyTrace.{AreDistinct}
use Rattle.coap_block.proofs.Facts.Keys.{same_key-decides, same_key_self}

cond_none : (b : Bool) (p : PartialBody) (o : Option PartialBody) → (if b then Some p else o) ≡ None
    → (b ≡ false) × (o ≡ None)
cond_none true p o h = absurd cc
cond_none false p o h = (refl, h)

cond_some : (b : Bool) (p q : PartialBody) (o : Option PartialBody) → (if b then Some p else o) ≡ Some q
    → ((b ≡ true) × (p ≡ q)) ⊎ ((b ≡ false) × (o ≡ Some q))
cond_some true p q o h = inl (refl, cc)
cond_some false p q o h = inr (refl, h)

is_same : (a b : Key) → same_key a b ≡ true → a ≡ b
is_same a b h = (same_key-decides a b).0 h

false_by : (c : Bool) → (c ≡ true → ⊥) → c ≡ false
false_by true f = absurd (f refl)
false_by false f = refl

pub is_other : (a b : Key) → a ≢ b → same_key a b ≡ false
is_other a b h = false_by (same_key a b) (λ e. h (is_same a b e))

-- what is found is of the key
found_key_step : (b : Bool) (p q : PartialBody) (key : Key) (o : Option PartialBody) → same_key p.key key ≡ b
    → (o ≡ Some q → q.key ≡ key)
    → (if b then Some p else o) ≡ Some q → q.key ≡ key
found_key_step true p q key o is ih h = let e : p ≡ q = cc in ap (λ (x : PartialBody). x.key) (sym e)
    ∙ is_same p.key key is
found_key_step false p q key o is ih h = ih h

pub found_key : (key : Key) (ps : List PartialBody) (q : PartialBody) → partial_of key ps ≡ Some q → q.key ≡ key
found_key key [] q h = absurd cc
found_key key (p ∷ ps) q h = found_key_step (same_key p.key key) p q key (partial_of key ps) refl (found_key key ps q) h

-- without that of a key
out_other_step : (b : Bool) (p : PartialBody) (key other : Key) (ps : List PartialBody) → same_key p.key key ≡ b
    → other ≢ key
    → partial_of other (without_key key ps) ≡ partial_of other ps
    → partial_of other (if b then ps else p ∷ without_key key ps) ≡ partial_of other (p ∷ ps)
out_other_step true p key other ps is ne ih =
    let misses : same_key p.key other ≡ false = is_other p.key other
    (λ e. ne (sym e ∙ is_same p.key key is)) in rw misses refl
out_other_step false p key other ps is ne ih =
    ap (λ (o : Option PartialBody). if same_key p.key other then Some p else o) ih

pub out_other : (key other : Key) (ps : List PartialBody) → other ≢ key
    → partial_of other (without_key key ps) ≡ partial_of other ps
out_other key other [] ne = refl
out_other key other (p ∷ ps) ne = out_other_step (same_key p.key key) p key other ps refl ne (out_other key other ps ne)

out_none_step : (b : Bool) (p : PartialBody) (key : Key) (ps : List PartialBody) → same_key p.key key ≡ b
    → partial_of p.key ps ≡ None
    → partial_of key (without_key key ps) ≡ None → partial_of key (if b then ps else p ∷ without_key key ps) ≡ None
out_none_step true p key ps is none ih = ap (λ (k : Key). partial_of k ps) (sym (is_same p.key key is)) ∙ none
out_none_step false p key ps is none ih = rw is ih

pub out_none : (key : Key) (ps : List PartialBody) → AreDistinct ps → partial_of key (without_key key ps) ≡ None
out_none key [] d = refl
out_none key (p ∷ ps) d = out_none_step (same_key p.key key) p key ps refl d.0 (out_none key ps d.1)

differ : (a b : Key) → same_key a b ≡ false → a ≢ b
differ a b h e = let t : same_key a b ≡ true = (same_key-decides a b).1 e in absurd cc

distinct_out_step : (b : Bool) (p : PartialBody) (key : Key) (ps : List PartialBody) → same_key p.key key ≡ b
    → partial_of p.key ps ≡ None
    → AreDistinct ps → AreDistinct (without_key key ps) → AreDistinct (if b then ps else p ∷ without_key key ps)
distinct_out_step true p key ps is none d ih = d
distinct_out_step false p key ps is none d ih = (out_other key p.key ps (differ p.key key is) ∙ none, ih)

pub distinct_out : (key : Key) (ps : List PartialBody) → AreDistinct ps → AreDistinct (without_key key ps)
distinct_out key [] d = tt
distinct_out key (p ∷ ps) d = distinct_out_step (same_key p.key key) p key ps refl d.0 d.1 (distinct_out key ps d.1)

-- with another in its place, or behind the others
put_there_step : (b : Bool) (new p : PartialBody) (ps : List PartialBody) → same_key p.key new.key ≡ b
    → partial_of new.key (put new ps) ≡ Some new
    → partial_of new.key (if b then new ∷ ps else p ∷ put new ps) ≡ Some new
put_there_step true new p ps is ih = let self = same_key_self new.key in rw self refl
put_there_step false new p ps is ih = rw is ih

pub put_there : (new : PartialBody) (ps : List PartialBody) → partial_of new.key (put new ps) ≡ Some new
put_there new [] = let self = same_key_self new.key in rw self refl
put_there new (p ∷ ps) = put_there_step (same_key p.key new.key) new p ps refl (put_there new ps)

put_other_step : (b : Bool) (new p : PartialBody) (other : Key) (ps : List PartialBody) → same_key p.key new.key ≡ b
    → other ≢ new.key
    → partial_of other (put new ps) ≡ partial_of other ps
    → partial_of other (if b then new ∷ ps else p ∷ put new ps) ≡ partial_of other (p ∷ ps)
put_other_step true new p other ps is ne ih =
    let new_no : same_key new.key other ≡ false = is_other new.key other (λ e. ne (sym e)) in
    let old_no : same_key p.key other ≡ false = is_other p.key other (λ e. ne (sym e ∙ is_same p.key new.key is)) in rw
    (new_no, old_no) refl
put_other_step false new p other ps is ne ih =
    ap (λ (o : Option PartialBody). if same_key p.key other then Some p else o) ih

pub put_other : (new : PartialBody) (other : Key) (ps : List PartialBody) → other ≢ new.key
    → partial_of other (put new ps) ≡ partial_of other ps
put_other new other [] ne = let misses : same_key new.key other
    ≡ false = is_other new.key other (λ e. ne (sym e)) in rw misses refl
put_other new other (p ∷ ps) ne = put_other_step (same_key p.key new.key) new p other ps refl ne
    (put_other new other ps ne)

distinct_put_step : (b : Bool) (new p : PartialBody) (ps : List PartialBody) → same_key p.key new.key ≡ b
    → partial_of p.key ps ≡ None
    → AreDistinct ps → AreDistinct (put new ps) → AreDistinct (if b then new ∷ ps else p ∷ put new ps)
distinct_put_step true new p ps is none d ih =
    (ap (λ (k : Key). partial_of k ps) (sym (is_same p.key new.key is)) ∙ none, d)
distinct_put_step false new p ps is none d ih = (put_other new p.key ps (differ p.key new.key is) ∙ none, ih)

pub distinct_put : (new : PartialBody) (ps : List PartialBody) → AreDistinct ps → AreDistinct (put new ps)
distinct_put new [] d = (refl, tt)
distinct_put new (p ∷ ps) d = distinct_put_step (same_key p.key new.key) new p ps refl d.0 d.1 (distinct_put new ps d.1)

-- of those that are there still
gone_step : (l b : Bool) (p : PartialBody) (key : Key) (xs : List PartialBody) → same_key p.key key ≡ b → b ≡ false
    → partial_of key xs ≡ None
    → partial_of key (if l then p ∷ xs else xs) ≡ None
gone_step true b p key xs is misses e = rw (is, misses) e
gone_step false b p key xs is misses e = e

pub none_forgotten : (key : Key) (t : ℕ) (ps : List PartialBody) → partial_of key ps ≡ None
    → partial_of key (forgotten t ps) ≡ None
none_forgotten key t [] h = refl
none_forgotten key t (p ∷ ps) h =
    let n = cond_none (same_key p.key key) p (partial_of key ps) h in
    gone_step (is_live t p) (same_key p.key key) p key (forgotten t ps) refl n.0 (none_forgotten key t ps n.1)

distinct_there_step : (l : Bool) (t : ℕ) (p : PartialBody) (ps : List PartialBody) → partial_of p.key ps ≡ None
    → AreDistinct (forgotten t ps)
    → AreDistinct (if l then p ∷ forgotten t ps else forgotten t ps)
distinct_there_step true t p ps none d = (none_forgotten p.key t ps none, d)
distinct_there_step false t p ps none d = d

pub distinct_there : (t : ℕ) (ps : List PartialBody) → AreDistinct ps → AreDistinct (forgotten t ps)
distinct_there t [] d = tt
distinct_there t (p ∷ ps) d = distinct_there_step (is_live t p) t p ps d.0 (distinct_there t ps d.1)

was_there_step : (l b : Bool) (t : ℕ) (p q : PartialBody) (key : Key) (ps : List PartialBody) → same_key p.key key ≡ b
    → partial_of p.key ps ≡ None
    → (partial_of key (forgotten t ps) ≡ Some q → partial_of key ps ≡ Some q)
    → partial_of key (if l then p ∷ forgotten t ps else forgotten t ps) ≡ Some q
    → (if b then Some p else partial_of key ps) ≡ Some q
was_there_step true true t p q key ps is none ih h = rw is at h
was_there_step true false t p q key ps is none ih h = ih (rw is at h)
was_there_step false true t p q key ps is none ih h =
    let gone : partial_of key (forgotten t ps) ≡ None =
    none_forgotten key t ps (ap (λ (k : Key). partial_of k ps) (sym (is_same p.key key is)) ∙ none) in
    absurd cc
was_there_step false false t p q key ps is none ih h = ih h

pub was_there : (key : Key) (t : ℕ) (q : PartialBody) (ps : List PartialBody) → AreDistinct ps
    → partial_of key (forgotten t ps) ≡ Some q → partial_of key ps ≡ Some q
was_there key t q [] d h = h
was_there key t q (p ∷ ps) d h = was_there_step (is_live t p) (same_key p.key key) t p q key ps refl d.0
    (was_there key t q ps d.1) h

-- how many there are
fewer_step : (l : Bool) (p : PartialBody) (xs ps : List PartialBody) → length xs ≤ length ps
    → length (if l then p ∷ xs else xs) ≤ length (p ∷ ps)
fewer_step true p xs ps h = omega (arith, h)
fewer_step false p xs ps h = omega (arith, h)

pub fewer_there : (t : ℕ) (ps : List PartialBody) → length (forgotten t ps) ≤ length ps
fewer_there t [] = omega arith
fewer_there t (p ∷ ps) = fewer_step (is_live t p) p (forgotten t ps) ps (fewer_there t ps)

fewer_out_step : (b : Bool) (p : PartialBody) (xs ps : List PartialBody) → length xs ≤ length ps
    → length (if b then ps else p ∷ xs) ≤ length (p ∷ ps)
fewer_out_step true p xs ps h = omega (arith, h)
fewer_out_step false p xs ps h = omega (arith, h)

pub fewer_out : (key : Key) (ps : List PartialBody) → length (without_key key ps) ≤ length ps
fewer_out key [] = omega arith
fewer_out key (p ∷ ps) = fewer_out_step (same_key p.key key) p (without_key key ps) ps (fewer_out key ps)

one_more_step : (b : Bool) (new p : PartialBody) (xs ys ps : List PartialBody) → length ys ≤ length xs + 1
    → length (if b then new ∷ ps else p ∷ ys) ≤ length (if b then ps else p ∷ xs) + 1
one_more_step true new p xs ys ps h = omega (arith, h)
one_more_step false new p xs ys ps h = omega (arith, h)

pub one_more : (new : PartialBody) (ps : List PartialBody) → length (put new ps) ≤ length (without_key new.key ps) + 1
one_more new [] = omega arith
one_more new (p ∷ ps) = one_more_step (same_key p.key new.key) new p (without_key new.key ps) (put new ps) ps
    (one_more new ps)

as_many_step : (b : Bool) (new p q : PartialBody) (ys ps : List PartialBody)
    → (if b then Some p else partial_of new.key ps) ≡ Some q
    → (partial_of new.key ps ≡ Some q → length ys ≤ length ps)
    → length (if b then new ∷ ps else p ∷ ys) ≤ length (p ∷ ps)
as_many_step true new p q ys ps h ih = omega arith
as_many_step false new p q ys ps h ih = let le = ih h in omega (arith, le)

pub as_many : (new q : PartialBody) (ps : List PartialBody) → partial_of new.key ps ≡ Some q
    → length (put new ps) ≤ length ps
as_many new q [] h = absurd cc
as_many new q (p ∷ ps) h = as_many_step (same_key p.key new.key) new p q (put new ps) ps h (as_many new q ps)
