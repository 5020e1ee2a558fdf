-- Partial bodies of the code as those that contracts see.
use Rattle.std.proofs.Common.{◌≡◌, ◌∙◌, ℕ, zero, suc, Bool, true, false, nat_le, ◌-◌, ◌<◌, ◌≤◌, ◌++◌, List, [], ◌∷◌}
use Rattle.std.proofs.Common.{length, filter, take, set, get_or, if◌then◌else◌, Result, Ok, Err, refl, ap, sym, subst}
use Rattle.std.proofs.Common.{arith}
use Rattle.std.specs.List.{insert, remove}
use Rattle.std.specs.Result.{IfOk, OnOk, OnErr, IsOk, is_ok}
use Rattle.std.proofs.lemmas.Bool.Decides.{nat_tests}
use Rattle.std.proofs.lemmas.List.{length-append, length-map, map-append, map-set}
use Rattle.std.proofs.Math.Seq.{take-append_seam, map-set_same}
use Rattle.coap_block.specs.declared.partial.Partial.{Partial}
use Rattle.coap_block.specs.declared.assembly_undo.Change.{Change}
use Rattle.coap_block.specs.AssemblyState.{PartialBody, is_live, forgotten}
use Rattle.coap_block.specs.declared.partial.TheConstants.{PARTIAL_LIFETIME_MS as partial_lifetime}
use Rattle.coap_block.specs.AssemblyKept.{body_of, partials_of, changed_at, grown, cut, restored}

-- what is there
abbrev pub live_of : {A : Type 0} → ℕ → List (Partial A) → List (Partial A)
live_of {A} t ps = filter (λ (p : Partial A). is_live t (body_of p)) ps

live_step : {A : Type 0} (b : Bool) (p : Partial A) (ps : List (Partial A)) (ys : List PartialBody)
    → ys ≡ partials_of ps
    → (if b then body_of p ∷ ys else ys) ≡ partials_of (if b then p ∷ ps else ps)
live_step true p ps ys e = ap (λ (r : List PartialBody). body_of p ∷ r) e
live_step false p ps ys e = e

pub kept_live : {A : Type 0} (t : ℕ) (ps : List (Partial A)) → forgotten t (partials_of ps) ≡ partials_of (live_of t ps)
kept_live t [] = refl
kept_live {A} t (p ∷ ps) = live_step (is_live t (body_of p)) p (live_of t ps) (forgotten t (partials_of ps))
    (kept_live t ps)

pub kept_at : {A : Type 0} (ps : List (Partial A)) (i : ℕ) (d : Partial A)
    → body_of (get_or ps i d) ≡ get_or (partials_of ps) i (body_of d)
kept_at [] i d = refl
kept_at (p ∷ ps) zero d = refl
kept_at (p ∷ ps) (suc i) d = kept_at ps i d

pub kept_remove : {A : Type 0} (ps : List (Partial A)) (i : ℕ) → partials_of (remove ps i) ≡ remove (partials_of ps) i
kept_remove [] zero = refl
kept_remove [] (suc i) = refl
kept_remove (p ∷ ps) zero = refl
kept_remove (p ∷ ps) (suc i) = ap (λ (r : List PartialBody). body_of p ∷ r) (kept_remove ps i)

-- what was removed is put back
pub inserted_back : {X : Type 0} (xs : List X) (i : ℕ) (d : X) → i < length xs
    → insert (remove xs i) i (get_or xs i d) ≡ xs
inserted_back [] i d h = absurd (omega arith)
inserted_back (x ∷ xs) zero d h = refl
inserted_back {X} (x ∷ xs) (suc i) d h = ap (λ (r : List X). x ∷ r) (inserted_back xs i d (omega arith))

pub set_back : {X : Type 0} (xs : List X) (i : ℕ) (y d : X) → i < length xs → set (set xs i y) i (get_or xs i d) ≡ xs
set_back [] i y d h = absurd (omega arith)
set_back (x ∷ xs) zero y d h = refl
set_back {X} (x ∷ xs) (suc i) y d h = ap (λ (r : List X). x ∷ r) (set_back xs i y d (omega arith))

pub changed_set : (f : PartialBody → PartialBody) (xs : List PartialBody) (i : ℕ) (d : PartialBody) → i < length xs
    → set xs i (f (get_or xs i d)) ≡ changed_at f i xs
changed_set f [] i d h = absurd (omega arith)
changed_set f (x ∷ xs) zero d h = refl
changed_set f (x ∷ xs) (suc i) d h = ap (λ (r : List PartialBody). x ∷ r) (changed_set f xs i d (omega arith))

pub grown_set : (f : PartialBody → PartialBody) (xs : List PartialBody) (i : ℕ) (y d : PartialBody) → i < length xs
    → y ≡ f (get_or xs i d)
    → set xs i y ≡ changed_at f i xs
grown_set f xs i y d h e = ap (λ (x : PartialBody). set xs i x) e ∙ changed_set f xs i d h

-- what was put behind is cut off again
pub cut_back : (payload : List ℕ) (t : ℕ) (xs : List PartialBody) (i : ℕ) (d : PartialBody) → i < length xs
    → changed_at (cut (length (get_or xs i d).bytes) (get_or xs i d).last) i (changed_at (grown payload t) i xs) ≡ xs
cut_back payload t [] i d h = refl
cut_back payload t (x ∷ xs) zero d h = λ i. record
    { key = x.key; bytes = take-append_seam x.bytes payload i; last = x.last } ∷ xs
cut_back payload t (x ∷ xs) (suc i) d h = ap (λ (r : List PartialBody). x ∷ r) (cut_back payload t xs i d (omega arith))

-- what is there at a later moment was there before
still_step : (a b : Bool) (x : PartialBody) (xs ys : List PartialBody) (t : ℕ) → is_live t x ≡ b → (b ≡ true → a ≡ true)
    → forgotten t xs ≡ ys
    → forgotten t (if a then x ∷ xs else xs) ≡ (if b then x ∷ ys else ys)
still_step true true x xs ys t is keeps e = rw is (ap (λ (r : List PartialBody). x ∷ r) e)
still_step true false x xs ys t is keeps e = rw is e
still_step false true x xs ys t is keeps e = let h : false ≡ true = keeps refl in absurd cc
still_step false false x xs ys t is keeps e = e

pub was_live : (c t last : ℕ) → c ≤ t → nat_le (t - last) partial_lifetime ≡ true
    → nat_le (c - last) partial_lifetime ≡ true
was_live c t last le h = grind (arith, nat_tests)

pub forgotten_twice : (c t : ℕ) → c ≤ t → (ps : List PartialBody) → forgotten t (forgotten c ps) ≡ forgotten t ps
forgotten_twice c t le [] = refl
forgotten_twice c t le (p ∷ ps) =
    still_step (is_live c p) (is_live t p) p (forgotten c ps) (forgotten t ps) t refl (was_live c t p.last le)
    (forgotten_twice c t le ps)

-- without the last one
pub front_of : (xs : List PartialBody) (x : PartialBody) → take (length (xs ++ x ∷ []) - 1) (xs ++ x ∷ []) ≡ xs
front_of xs x =
    let e : length (xs ++ x ∷ []) - 1 ≡ length xs = omega (arith, length-append xs (x ∷ [])) in
    ap (λ (n : ℕ). take n (xs ++ x ∷ [])) e ∙ take-append_seam xs (x ∷ [])

-- how many are there
pub length_live : {A : Type 0} (t n : ℕ) (ps : List (Partial A)) → n ≡ length (live_of t ps)
    → n ≡ length (forgotten t (partials_of ps))
length_live {A} t n ps is = is ∙ sym (length-map (live_of t ps) (λ (p : Partial A). body_of p))
    ∙ sym (ap (λ (l : List PartialBody). length l) (kept_live t ps))

long_as : {A : Type 0} (ps : List (Partial A)) → length (partials_of ps) ≡ length ps
long_as {A} ps = length-map ps (λ (p : Partial A). body_of p)

-- one that was taken out is put back
pub taken_back : {A : Type 0} (ps left : List (Partial A)) (i : ℕ) (x : Partial A) → left ≡ remove ps i
    → x ≡ get_or ps i x → i < length ps
    → insert (partials_of left) i (body_of x) ≡ partials_of ps
taken_back {A} ps left i x out is h =
    let e : partials_of left ≡ remove (partials_of ps) i = ap (λ (l : List (Partial A)). partials_of l) out
    ∙ kept_remove ps i in
    let b : body_of x ≡ get_or (partials_of ps) i (body_of x) = ap (λ (p : Partial A). body_of p) is ∙ kept_at ps i x in
    ap (λ (l : List PartialBody). insert l i (body_of x)) e
    ∙ ap (λ (y : PartialBody). insert (remove (partials_of ps) i) i y) b
    ∙ inserted_back (partials_of ps) i (body_of x) (omega (arith, h, long_as ps))

-- one that is changed in its place
pub kept_set_same : {A : Type 0} (ps : List (Partial A)) (i : ℕ) (y d : Partial A) → body_of y ≡ body_of (get_or ps i d)
    → partials_of (set ps i y) ≡ partials_of ps
kept_set_same {A} ps i y d e = map-set_same (λ (p : Partial A). body_of p) ps i y d e

pub kept_changed : {A : Type 0} (f : PartialBody → PartialBody) (ps : List (Partial A)) (i : ℕ) (y d : Partial A)
    → i < length ps
    → body_of y ≡ f (body_of (get_or ps i d)) → partials_of (set ps i y) ≡ changed_at f i (partials_of ps)
kept_changed {A} f ps i y d h e =
    map-set (λ (p : Partial A). body_of p) ps i y
    ∙ grown_set f (partials_of ps) i (body_of y) (body_of d) (omega (arith, h, long_as ps)) (e ∙ ap f (kept_at ps i d))

pub kept_cut_back : {A : Type 0} (payload : List ℕ) (t n : ℕ) (ps : List (Partial A)) (i : ℕ) (y d : Partial A)
    → i < length ps
    → d ≡ get_or ps i d → n ≡ length d.bytes → body_of y ≡ grown payload t (body_of d)
    → changed_at (cut n d.last.0) i (partials_of (set ps i y)) ≡ partials_of ps
kept_cut_back {A} payload t n ps i y d h is len e =
    let back = cut_back payload t (partials_of ps) i (body_of d) (omega (arith, h, long_as ps)) in
    let at : get_or (partials_of ps) i (body_of d) ≡ body_of d = sym (kept_at ps i d)
    ∙ sym (ap (λ (p : Partial A). body_of p) is) in
    let as_grown = kept_changed (grown payload t) ps i y d h
    (e ∙ ap (λ (p : Partial A). grown payload t (body_of p)) is) in
    ap (λ (k : ℕ). changed_at (cut k d.last.0) i (partials_of (set ps i y))) len
    ∙ ap (λ (l : List PartialBody). changed_at (cut (length d.bytes) d.last.0) i l) as_grown
    ∙ subst (λ (b : PartialBody). changed_at (cut (length b.bytes) b.last) i
    (changed_at (grown payload t) i (partials_of ps)) ≡ partials_of ps) at back

pub kept_set : {A : Type 0} (ps : List (Partial A)) (i : ℕ) (y : Partial A) (b : PartialBody) → body_of y ≡ b
    → partials_of (set ps i y) ≡ set (partials_of ps) i b
kept_set {A} ps i y b e = map-set (λ (p : Partial A). body_of p) ps i y
    ∙ ap (λ (x : PartialBody). set (partials_of ps) i x) e

pub kept_set_back : {A : Type 0} (ps : List (Partial A)) (i : ℕ) (y d : Partial A) → i < length ps
    → set (partials_of (set ps i y)) i (body_of (get_or ps i d)) ≡ partials_of ps
kept_set_back {A} ps i y d h =
    ap (λ (l : List PartialBody). set l i (body_of (get_or ps i d))) (map-set (λ (p : Partial A). body_of p) ps i y)
    ∙ ap (λ (b : PartialBody). set (set (partials_of ps) i (body_of y)) i b) (kept_at ps i d)
    ∙ set_back (partials_of ps) i (body_of y) (body_of d) (omega (arith, h, long_as ps))

pub kept_insert : {A : Type 0} (ps : List (Partial A)) (i : ℕ) (x : Partial A)
    → partials_of (insert ps i x) ≡ insert (partials_of ps) i (body_of x)
kept_insert [] zero x = refl
kept_insert [] (suc i) x = refl
kept_insert (p ∷ ps) zero x = refl
kept_insert (p ∷ ps) (suc i) x = ap (λ (r : List PartialBody). body_of p ∷ r) (kept_insert ps i x)

-- one behind those that are there
pub begun_behind : {A : Type 0} (t : ℕ) (old same live all : List (Partial A)) (x : Partial A) (b : PartialBody)
    → same ≡ old → live ≡ live_of t same → all ≡ live ++ x ∷ [] → body_of x ≡ b
    → partials_of all ≡ forgotten t (partials_of old) ++ b ∷ []
begun_behind {A} t old same live all x b is lives behind e =
    ap (λ (l : List (Partial A)). partials_of l) behind ∙ map-append (λ (p : Partial A). body_of p) live (x ∷ [])
    ∙ ap (λ (l : List PartialBody). l ++ body_of x ∷ [])
    (ap (λ (l : List (Partial A)). partials_of l) lives
    ∙ ap (λ (l : List (Partial A)). partials_of (live_of t l)) is ∙ sym (kept_live t old))
    ∙ ap (λ (y : PartialBody). forgotten t (partials_of old) ++ y ∷ []) e

pub begun_back : (xs all : List PartialBody) (b : PartialBody) → all ≡ xs ++ b ∷ [] → take (length all - 1) all ≡ xs
begun_back xs all b e = ap (λ (l : List PartialBody). take (length l - 1) l) e ∙ front_of xs b

-- what holds anyway holds where there is an error
pub on_err : {T E : Type 0} (P : Type 0) (r : Result T E) → P → OnErr r P
on_err P (Ok x) p = tt
on_err P (Err e) p = p

-- and what is put in where there is room is there
pub kept_put_back : {A E : Type 0} (ps all : List (Partial A)) (i : ℕ) (x : Partial A) (r : Result (Unit {0}) E)
    → all ≡ (if is_ok r then insert ps i x else ps) → IsOk r → partials_of all ≡ insert (partials_of ps) i (body_of x)
kept_put_back {A} ps all i x (Ok u) is ok = ap (λ (l : List (Partial A)). partials_of l) is ∙ kept_insert ps i x
kept_put_back ps all i x (Err e) is ok = absurd cc

pub ok_there : {T E : Type 0} (t : ℕ) (r : Result T E) (new y z : List PartialBody) → OnOk r (new ≡ y)
    → forgotten t y ≡ z → OnOk r (forgotten t new ≡ z)
ok_there t (Ok x) new y z e h = ap (λ (l : List PartialBody). forgotten t l) e ∙ h
ok_there t (Err x) new y z e h = tt

pub ok_back : {A E : Type 0} (was : ℕ) (r : Result (Change A) E) (new old : List PartialBody)
    → IfOk r (λ change. restored change new ≡ forgotten was old)
    → IfOk r (λ change. forgotten was (restored change new) ≡ forgotten was old)
ok_back was (Ok change) new old e = ap (λ (l : List PartialBody). forgotten was l) e
    ∙ forgotten_twice was was (omega arith) old
ok_back was (Err x) new old e = tt
