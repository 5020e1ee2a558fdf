-- Entries as a map.
use Rattle.std.proofs.Common.{◌≡◌, ◌≢◌, ◌≤◌, ℕ, zero, suc, Bool, true, false, not, ◌||◌, ◌+◌, ◌++◌, ◌∙◌, List, [], ◌∷◌}
use Rattle.std.proofs.Common.{length, slice_get, refl, ap, sym, subst, arith, Option, Some, None, IfSome, is_some}
use Rattle.std.proofs.Common.{if◌then◌else◌, length-append}
use Rattle.std.proofs.lemmas.List.{length-map}
use Rattle.std.specs.List.{filter}
use Rattle.coap_resource.specs.declared.entry.Entry.{Entry}
use Rattle.coap_types.specs.Path.{same_path}
use Rattle.coap_types.specs.declared.body_limit.TheConstants.{MAX_BODY_LIMIT as max_limit}
use Rattle.coap_resource.specs.Content.{Changes, Held, Lists, is_listed}
use Rattle.coap_resource.specs.Rate.{Tally, counted}
use Rattle.coap_resource.specs.Entries.{entry_of, held_entries, find, without_path, Unique, HaveAtMost, AreShort}
use Rattle.coap_resource.specs.Entries.{Enters, Listed, content_of, paths_of}
use Rattle.coap_types.proofs.Facts.Paths.{same_path-decides}

pub entries_append : {A : Type 0} (xs ys : List (Entry A))
    → held_entries (xs ++ ys) ≡ held_entries xs ++ held_entries ys
entries_append [] ys = refl
entries_append (x ∷ xs) ys = ap (λ (r : List (List (List ℕ) × Held)). entry_of x ∷ r) (entries_append xs ys)

entries_cond : {A : Type 0} (b : Bool) (x : Entry A) (xs : List (Entry A))
    → held_entries (if b then x ∷ xs else xs) ≡ (if b then entry_of x ∷ held_entries xs else held_entries xs)
entries_cond true x xs = refl
entries_cond false x xs = refl

pub entries_without : {A : Type 0} (es : List (Entry A)) (p : List (List ℕ))
    → held_entries (filter (λ (e : Entry A). not (same_path e.path p)) es) ≡ without_path (held_entries es) p
entries_without [] p = refl
entries_without {A} (e ∷ es) p =
    entries_cond (not (same_path e.path p)) e (filter (λ (e : Entry A). not (same_path e.path p)) es)
    ∙ ap (λ (r : List (List (List ℕ) × Held)). if not (same_path e.path p) then entry_of e ∷ r else r)
    (entries_without es p)

is_same : (p q : List (List ℕ)) → same_path p q ≡ true → p ≡ q
is_same p q h = (same_path-decides p q).0 h

same_self : (p : List (List ℕ)) → same_path p p ≡ true
same_self p = (same_path-decides p p).1 refl

other_by : (b : Bool) (p q : List (List ℕ)) → (b ≡ true → p ≡ q) → q ≢ p → b ≡ false
other_by true p q d h = absurd (h (sym (d refl)))
other_by false p q d h = refl

pub is_other : (p q : List (List ℕ)) → q ≢ p → same_path p q ≡ false
is_other p q h = other_by (same_path p q) p q (is_same p q) h

there_step : (b : Bool) (e : List (List ℕ) × Held) (w : List (List (List ℕ) × Held)) (p : List (List ℕ))
    → same_path e.0 p ≡ b → find w p ≡ None
    → find (if not b then e ∷ w else w) p ≡ None
there_step true e w p is ih = ih
there_step false e w p is ih = rw is ih

pub find_without : (es : List (List (List ℕ) × Held)) (p : List (List ℕ)) → find (without_path es p) p ≡ None
find_without [] p = refl
find_without (e ∷ es) p = there_step (same_path e.0 p) e (without_path es p) p refl (find_without es p)

other_step : (b : Bool) (e : List (List ℕ) × Held) (es w : List (List (List ℕ) × Held)) (p q : List (List ℕ))
    → same_path e.0 p ≡ b → q ≢ p
    → find w q ≡ find es q → find (if not b then e ∷ w else w) q ≡ find (e ∷ es) q
other_step false e es w p q is ne ih = ap (λ (r : Option Held). if same_path e.0 q then Some e.1 else r) ih
other_step true e es w p q is ne ih =
    let same = is_same e.0 p is in
    let no : same_path e.0 q ≡ false = is_other e.0 q (λ h. ne (h ∙ same)) in
    rw no ih

pub find_without_other : (es : List (List (List ℕ) × Held)) (p q : List (List ℕ)) → q ≢ p
    → find (without_path es p) q ≡ find es q
find_without_other [] p q ne = refl
find_without_other (e ∷ es) p q ne = other_step (same_path e.0 p) e es (without_path es p) p q refl ne
    (find_without_other es p q ne)

cond_none : (b : Bool) (x : Held) (o : Option Held) → (if b then Some x else o) ≡ None → (b ≡ false) × (o ≡ None)
cond_none true x o h = absurd cc
cond_none false x o h = (refl, h)

pub find_behind : (es : List (List (List ℕ) × Held)) (p : List (List ℕ)) (h : Held) → find es p ≡ None
    → find (es ++ (p, h) ∷ []) p ≡ Some h
find_behind [] p h none = rw same_self refl
find_behind (e ∷ es) p h none =
    let n = cond_none (same_path e.0 p) e.1 (find es p) none in
    rw n.0 (find_behind es p h n.1)

pub find_behind_other : (es : List (List (List ℕ) × Held)) (p q : List (List ℕ)) (h : Held) → q ≢ p
    → find (es ++ (p, h) ∷ []) q ≡ find es q
find_behind_other [] p q h ne = let no = is_other p q ne in rw no refl
find_behind_other (e ∷ es) p q h ne = ap (λ (r : Option Held). if same_path e.0 q then Some e.1 else r)
    (find_behind_other es p q h ne)

differ : (p q : List (List ℕ)) → same_path p q ≡ false → p ≢ q
differ p q h e = let t = same_self q in let u : same_path q q
    ≡ false = subst (λ (r : List (List ℕ)). same_path r q ≡ false) e h in absurd cc

length_step : (b : Bool) (e : List (List ℕ) × Held) (es w : List (List (List ℕ) × Held)) (p : List (List ℕ))
    → same_path e.0 p ≡ b → find es e.0 ≡ None
    → length w + (if is_some (find es p) then 1 else 0) ≡ length es
    → length (if not b then e ∷ w else w) + (if is_some (if b then Some e.1 else find es p) then 1 else 0)
    ≡ length (e ∷ es)
length_step true e es w p is none ih =
    let same = is_same e.0 p is in
    let gone : find es p ≡ None = subst (λ (q : List (List ℕ)). find es q ≡ None) same none in
    let ih' = rw gone at ih in omega (arith, ih')
length_step false e es w p is none ih = omega (arith, ih)

pub length_without : (es : List (List (List ℕ) × Held)) (p : List (List ℕ)) → Unique es
    → length (without_path es p) + (if is_some (find es p) then 1 else 0) ≡ length es
length_without [] p u = refl
length_without (e ∷ es) p u = length_step (same_path e.0 p) e es (without_path es p) p refl u.0
    (length_without es p u.1)

unique_step : (b : Bool) (e : List (List ℕ) × Held) (es : List (List (List ℕ) × Held)) (p : List (List ℕ))
    → same_path e.0 p ≡ b → find es e.0 ≡ None
    → Unique (without_path es p) → Unique (if not b then e ∷ without_path es p else without_path es p)
unique_step true e es p is none ih = ih
unique_step false e es p is none ih = (find_without_other es p e.0 (differ e.0 p is) ∙ none, ih)

pub unique_without : (es : List (List (List ℕ) × Held)) (p : List (List ℕ)) → Unique es → Unique (without_path es p)
unique_without [] p u = tt
unique_without (e ∷ es) p u = unique_step (same_path e.0 p) e es p refl u.0 (unique_without es p u.1)

unique_behind : (es : List (List (List ℕ) × Held)) (p : List (List ℕ)) (h : Held) → find es p ≡ None → Unique es
    → Unique (es ++ (p, h) ∷ [])
unique_behind [] p h none u = (refl, tt)
unique_behind (e ∷ es) p h none u =
    let n = cond_none (same_path e.0 p) e.1 (find es p) none in
    (find_behind_other es p e.0 h (differ e.0 p n.0) ∙ u.0, unique_behind es p h n.1 u.1)

-- the entries after a put
abbrev pub replaced : List (List (List ℕ) × Held) → List (List ℕ) → Held → List (List (List ℕ) × Held)
replaced es p h = without_path es p ++ (p, h) ∷ []

pub unique_put : (es : List (List (List ℕ) × Held)) (p : List (List ℕ)) (h : Held) → Unique es
    → Unique (replaced es p h)
unique_put es p h u = unique_behind (without_path es p) p h (find_without es p) (unique_without es p u)

pub there_put : (es : List (List (List ℕ) × Held)) (p : List (List ℕ)) (h : Held) → find (replaced es p h) p ≡ Some h
there_put es p h = find_behind (without_path es p) p h (find_without es p)

pub others_put : (es : List (List (List ℕ) × Held)) (p q : List (List ℕ)) (h : Held) → q ≢ p
    → find (replaced es p h) q ≡ find es q
others_put es p q h ne = find_behind_other (without_path es p) p q h ne ∙ find_without_other es p q ne

pub length_put : (es : List (List (List ℕ) × Held)) (p : List (List ℕ)) (h : Held) → Unique es
    → length (replaced es p h) + (if is_some (find es p) then 1 else 0) ≡ length es + 1
length_put es p h u = omega (arith, length_without es p u, length-append (without_path es p) ((p, h) ∷ []))

pub change_put : (old new : Listed) (now : ℕ) (p : List (List ℕ)) (h : Held) → Unique old.entries
    → new.entries ≡ replaced old.entries p h
    → new.tally ≡ counted old.tally now → Changes (content_of old) now p (Some h) (content_of new)
change_put old new now p h u es tally = record {
  there = rw es (there_put old.entries p h);
  others = λ q ne. rw es (others_put old.entries p q h ne);
  paths = rw es (length_put old.entries p h u);
  tally = tally;
}

-- the path's entry taken out is a change to nothing
pub change_out : (old new : Listed) (now : ℕ) (p : List (List ℕ)) → Unique old.entries
    → new.entries ≡ without_path old.entries p
    → new.tally ≡ counted old.tally now → Changes (content_of old) now p None (content_of new)
change_out old new now p u es tally = record {
  there = rw es (find_without old.entries p);
  others = λ q ne. rw es (find_without_other old.entries p q ne);
  paths = rw es (omega (arith, length_without old.entries p u));
  tally = tally;
}

some_same : (h k : Held) → Some h ≡ Some k → h ≡ k
some_same h k e = cc

-- what was found at a path is what the store holds there
pub found_is : {A : Type 0} (es fs : List (Entry A)) (old : Listed) (t : Tally) (p : List (List ℕ)) (h k : Held)
    → Some h ≡ find (held_entries fs) p → fs ≡ es → record { entries = held_entries es; tally = t } ≡ old
    → find old.entries p ≡ Some k → h ≡ k
found_is es fs old t p h k found same view is =
    some_same h k (found ∙ ap (λ xs. find (held_entries xs) p) same ∙ ap (λ (s : Listed). find s.entries p) view ∙ is)

-- a longer body in place of what the path holds
pub change_append : (old new : Listed) (now : ℕ) (p : List (List ℕ)) (version : ℕ) (was held : Held)
    (body more : List ℕ) → Unique old.entries
    → new.entries ≡ replaced old.entries p (record { version = version; format = was.format; body = body })
    → body ≡ was.body ++ more
    → was ≡ held → new.tally ≡ counted old.tally now
    → Changes (content_of old) now p (Some (record
    { version = version; format = held.format; body = held.body ++ more })) (content_of new)
change_append old new now p version was held body more u es joined same tally =
    rw (← same, ← joined) (change_put old new now p
    (record { version = version; format = was.format; body = body }) u es tally)

short_step : (limit : ℕ) (b : Bool) (e : List (List ℕ) × Held) (es : List (List (List ℕ) × Held))
    → length e.1.body ≤ limit
    → HaveAtMost limit es → HaveAtMost limit (if b then e ∷ es else es)
short_step limit true e es first rest = (first, rest)
short_step limit false e es first rest = rest

without : (limit : ℕ) (es : List (List (List ℕ) × Held)) (p : List (List ℕ)) → HaveAtMost limit es
    → HaveAtMost limit (without_path es p)
without limit [] p short = tt
without limit (e ∷ es) p short = short_step limit (not (same_path e.0 p)) e (without_path es p) short.0
    (without limit es p short.1)

-- the entries that stay are short
pub short_without : (limit : ℕ) (es : List (List (List ℕ) × Held)) (p : List (List ℕ)) → AreShort limit es
    → AreShort limit (without_path es p)
short_without limit es p short = record { bodies = without limit es p short.bodies; chosen = short.chosen }

short_behind : (limit : ℕ) (es : List (List (List ℕ) × Held)) (p : List (List ℕ)) (h : Held) → HaveAtMost limit es
    → length h.body ≤ limit → HaveAtMost limit (es ++ (p, h) ∷ [])
short_behind limit [] p h short last = (last, tt)
short_behind limit (e ∷ es) p h short last = (short.0, short_behind limit es p h short.1 last)

pub short_put : (limit : ℕ) (es : List (List (List ℕ) × Held)) (p : List (List ℕ)) (h : Held) → AreShort limit es
    → length h.body ≤ limit → AreShort limit (replaced es p h)
short_put limit es p h short last = record {
  bodies = short_behind limit (without_path es p) p h (without limit es p short.bodies) last;
  chosen = short.chosen;
}

short_found : (limit : ℕ) (b : Bool) (h : Held) (found : Option Held) → length h.body ≤ limit
    → IfSome found (λ k. length k.body ≤ limit)
    → IfSome (if b then Some h else found) (λ k. length k.body ≤ limit)
short_found limit true h found first rest = first
short_found limit false h found first rest = rest

find_among : (limit : ℕ) (es : List (List (List ℕ) × Held)) (p : List (List ℕ)) → HaveAtMost limit es
    → IfSome (find es p) (λ held. length held.body ≤ limit)
find_among limit [] p short = tt
find_among limit (e ∷ es) p short =
    short_found limit (same_path e.0 p) e.1 (find es p) short.0 (find_among limit es p short.1)

-- what is found is short
pub short_find : (limit : ℕ) (es : List (List (List ℕ) × Held)) (p : List (List ℕ)) → AreShort limit es
    → IfSome (find es p) (λ held. length held.body ≤ limit)
short_find limit es p short = find_among limit es p short.bodies

within_by : (limit : ℕ) (found : Option Held) → limit ≤ max_limit → IfSome found (λ held. length held.body ≤ limit)
    → IfSome found (λ held. length held.body ≤ max_limit)
within_by limit None chosen short = tt
within_by limit (Some held) chosen short = omega (arith, short, chosen)

-- .. and no longer than any limit
pub within_find : (limit : ℕ) (es : List (List (List ℕ) × Held)) (p : List (List ℕ)) → AreShort limit es
    → IfSome (find es p) (λ held. length held.body ≤ max_limit)
within_find limit es p short = within_by limit (find es p) short.chosen (short_find limit es p short)

-- a body that is joined to another
pub short_joined : (limit : ℕ) (body front more : List ℕ) → body ≡ front ++ more → length front + length more ≤ limit
    → length body ≤ limit
short_joined limit body front more is few = rw is (omega (arith, length-append front more))

-- what enters is a change
pub change_enters : (old new : Listed) (now : ℕ) (p : List (List ℕ)) (held : Option Held)
    → Enters old.entries p held new.entries
    → new.tally ≡ counted old.tally now → Changes (content_of old) now p held (content_of new)
change_enters old new now p held enters tally =
    record { there = enters.there; others = enters.others; paths = enters.paths; tally = tally }

-- .. also where a body was joined
pub change_joined : (old new : Listed) (now : ℕ) (p : List (List ℕ)) (version : ℕ) (was held : Held)
    (body more : List ℕ)
    → Enters old.entries p (Some (record { version = version; format = was.format; body = body })) new.entries
    → body ≡ was.body ++ more
    → was ≡ held → new.tally ≡ counted old.tally now
    → Changes (content_of old) now p (Some (record
    { version = version; format = held.format; body = held.body ++ more })) (content_of new)
change_joined old new now p version was held body more enters joined same tally =
    rw (← same, ← joined) (change_enters old new now p
    (Some (record { version = version; format = was.format; body = body })) enters tally)

-- what was found there is what the store holds there
pub found_there : (es : List (List (List ℕ) × Held)) (old : Listed) (t : Tally) (p : List (List ℕ)) (h k : Held)
    → Some h ≡ find es p → record { entries = es; tally = t } ≡ old → find old.entries p ≡ Some k → h ≡ k
found_there es old t p h k found is there = some_same h k (cc)

-- a path is listed where it has an entry
listed_step : (b : Bool) (h : Held) (rest : Bool) (found : Option Held) → rest ≡ is_some found
    → (b || rest) ≡ is_some (if b then Some h else found)
listed_step true h rest found ih = refl
listed_step false h rest found ih = ih

listed : (es : List (List (List ℕ) × Held)) (p : List (List ℕ)) → is_listed p (paths_of es) ≡ is_some (find es p)
listed [] p = refl
listed (e ∷ es) p =
    listed_step (same_path e.0 p) e.1 (is_listed p (paths_of es)) (find es p) (listed es p)

-- .. so a store lists the paths of its entries
pub lists : (s : Listed) → Lists (content_of s) (paths_of s.entries)
lists s = record {
  held = λ p. listed s.entries p;
  once = length-map s.entries (λ (e : List (List ℕ) × Held). e.0);
}

-- the path of the entry at a place is the path at that place
pub path_there : {A : Type 0} (es : List (Entry A)) (place : ℕ) (e : Entry A) → Some e ≡ slice_get es place
    → Some e.path ≡ slice_get (paths_of (held_entries es)) place
path_there [] place e at = absurd cc
path_there (x ∷ es) zero e at = cc
path_there (x ∷ es) (suc place) e at = path_there es place e at

-- .. and where there is no entry, no path is
pub none_there : {A : Type 0} (es : List (Entry A)) (place : ℕ) → None ≡ slice_get es place
    → None ≡ slice_get (paths_of (held_entries es)) place
none_there [] place at = refl
none_there (x ∷ es) zero at = absurd cc
none_there (x ∷ es) (suc place) at = none_there es place at
