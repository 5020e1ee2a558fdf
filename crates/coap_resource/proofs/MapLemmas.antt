-- A map from paths as the list of its entries, in the order of the paths.
use Rattle.std.proofs.Common.{◌≡◌, ◌≤◌, ℕ, Bool, true, false, ◌+◌, ◌∙◌, List, [], ◌∷◌, length, refl, ap, sym, arith}
use Rattle.std.proofs.Common.{Option, Some, None, IfSome, is_some, if◌then◌else◌}
use Rattle.std.proofs.lemmas.List.{length-map}
use Rattle.std.specs.BTreeMap.{BTreeMap, UpdatesBy, btree_map_len, get, get_by, insert_entry, is_at}
use Rattle.std.specs.Map.{keys_of, lookup, remove_entry}
use Rattle.coap_types.specs.Path.{same_path, path_order}
use Rattle.coap_types.specs.PathOrder.{path_order_ties}
use Rattle.coap_types.proofs.Facts.Paths.{same_path-decides}
use Rattle.coap_resource.specs.declared.representation.Representation.{Representation}
use Rattle.coap_resource.specs.Content.{Held}
use Rattle.coap_resource.specs.Entries.{AreShort, Enters, HaveAtMost, find, mapped_entries, paths_of}
use Rattle.coap_resource.specs.Shown.{held_of, shown}
use Rattle.std.specs.declared.cmp.Ordering.{Ordering}
use Rattle.std.specs.declared.cmp.Ordering.TheVariants.{Less, Equal, Greater}
use Rattle.std.specs.Ordering.{match_ordering}
use Rattle.coap_resource.proofs.EntryLemmas.{is_other}

-- a path equals another by their order exactly where they are one
at_same : (p q : List (List ℕ)) → is_at (path_order p) q ≡ same_path p q
at_same p q = sym (path_order_ties p q)

true_by : (b c : Bool) → (b ≡ true → c ≡ true) → (c ≡ true → b ≡ true) → b ≡ c
true_by true c f g = sym (f refl)
true_by false true f g = g refl
true_by false false f g = refl

turned : (p q : List (List ℕ)) → same_path p q ≡ same_path q p
turned p q = true_by (same_path p q) (same_path q p)
    (λ h. (same_path-decides q p).1 (sym ((same_path-decides p q).0 h)))
    (λ h. (same_path-decides p q).1 (sym ((same_path-decides q p).0 h)))

found_step : {A : Type 0} (b : Bool) (r : Representation A) (rest : Option (Representation A)) (f : Option Held)
    → f ≡ shown rest
    → (if b then Some (held_of r) else f) ≡ shown (if b then Some r else rest)
found_step true r rest f ih = refl
found_step false r rest f ih = ih

-- what is found in the map is what its entries hold
pub found : {A : Type 0} (es : List (List (List ℕ) × Representation A)) (p : List (List ℕ))
    → find (mapped_entries es) p ≡ shown (lookup (is_at (path_order p)) es)
found [] p = refl
found {A} (e ∷ es) p =
    let same : same_path e.0 p ≡ is_at (path_order p) e.0 = turned e.0 p ∙ sym (at_same p e.0) in
    rw same (found_step (is_at (path_order p) e.0) e.1 (lookup (is_at (path_order p)) es) (find (mapped_entries es) p)
    (found es p))

pub mapped_length : {A : Type 0} (es : List (List (List ℕ) × Representation A)) → length (mapped_entries es) ≡ length es
mapped_length {A} es = length-map es (λ (e : List (List ℕ) × Representation A). (e.0, held_of e.1))

-- the keys are the paths of the entries
pub mapped_paths : {A : Type 0} (es : List (List (List ℕ) × Representation A))
    → keys_of es ≡ paths_of (mapped_entries es)
mapped_paths [] = refl
mapped_paths (e ∷ es) = ap (λ (r : List (List (List ℕ))). e.0 ∷ r) (mapped_paths es)

some_shown : {A : Type 0} (r : Option (Representation A)) → is_some (shown r) ≡ is_some r
some_shown None = refl
some_shown (Some r) = refl

-- the entries stay short where a body is put in ..
short_placed : {A : Type 0} (limit : ℕ) (o : Ordering) (e : List (List ℕ) × Representation A)
    (es rest : List (List (List ℕ) × Representation A)) (p : List (List ℕ)) (r : Representation A)
    → length r.body ≤ limit → HaveAtMost limit (mapped_entries (e ∷ es)) → HaveAtMost limit (mapped_entries rest)
    → HaveAtMost limit (mapped_entries (match_ordering o ((p, r) ∷ e ∷ es) ((e.0, r) ∷ es) (e ∷ rest)))
short_placed limit Less e es rest p r fits all ih = (fits, all)
short_placed limit Equal e es rest p r fits all ih = (fits, all.1)
short_placed limit Greater e es rest p r fits all ih = (all.0, ih)

inserted : {A : Type 0} (limit : ℕ) (es : List (List (List ℕ) × Representation A)) (p : List (List ℕ))
    (r : Representation A)
    → length r.body ≤ limit → HaveAtMost limit (mapped_entries es)
    → HaveAtMost limit (mapped_entries (insert_entry path_order es p r))
inserted limit [] p r fits all = (fits, tt)
inserted limit (e ∷ es) p r fits all =
    short_placed limit (path_order p e.0) e es (insert_entry path_order es p r) p r fits all
    (inserted limit es p r fits all.1)

pub short_insert : {A : Type 0} (limit : ℕ) (es : List (List (List ℕ) × Representation A)) (p : List (List ℕ))
    (r : Representation A)
    → length r.body ≤ limit → AreShort limit (mapped_entries es)
    → AreShort limit (mapped_entries (insert_entry path_order es p r))
short_insert limit es p r fits all = record { bodies = inserted limit es p r fits all.bodies; chosen = all.chosen }

-- .. and where one is taken out
short_left : {A : Type 0} (limit : ℕ) (b : Bool) (e : List (List ℕ) × Representation A)
    (es rest : List (List (List ℕ) × Representation A))
    → HaveAtMost limit (mapped_entries (e ∷ es)) → HaveAtMost limit (mapped_entries rest)
    → HaveAtMost limit (mapped_entries (if b then es else e ∷ rest))
short_left limit true e es rest all ih = all.1
short_left limit false e es rest all ih = (all.0, ih)

removed : {A : Type 0} (limit : ℕ) (test : List (List ℕ) → Bool) (es : List (List (List ℕ) × Representation A))
    → HaveAtMost limit (mapped_entries es) → HaveAtMost limit (mapped_entries (remove_entry test es))
removed limit test [] all = tt
removed limit test (e ∷ es) all =
    short_left limit (test e.0) e es (remove_entry test es) all (removed limit test es all.1)

pub short_remove : {A : Type 0} (limit : ℕ) (test : List (List ℕ) → Bool)
    (es : List (List (List ℕ) × Representation A))
    → AreShort limit (mapped_entries es) → AreShort limit (mapped_entries (remove_entry test es))
short_remove limit test es all = record { bodies = removed limit test es all.bodies; chosen = all.chosen }

-- a map that is updated at a path enters that there
pub enters : {A : Type 0} (old new : BTreeMap (List (List ℕ)) (Representation A)) (p : List (List ℕ))
    (w : Option (Representation A))
    → UpdatesBy path_order (path_order p) old new w
    → length new.entries + (if is_some (get_by (path_order p) old) then 1 else 0)
    ≡ length old.entries + (if is_some w then 1 else 0)
    → ((limit : ℕ) → AreShort limit (mapped_entries old.entries) → IfSome (shown w) (λ h. length h.body ≤ limit)
    → AreShort limit (mapped_entries new.entries))
    → Enters (mapped_entries old.entries) p (shown w) (mapped_entries new.entries)
enters {A} old new p w up count short = record {
  there = found new.entries p ∙ ap (λ (r : Option (Representation A)). shown r) up.1;
  others = λ q ne.
      found new.entries q ∙ ap (λ (r : Option (Representation A)). shown r) (up.2 q (at_same p q ∙ is_other p q ne))
      ∙ sym (found old.entries q);
  paths =
      let had : is_some (find (mapped_entries old.entries) p) ≡ is_some (get_by (path_order p) old) =
      ap is_some (found old.entries p) ∙ some_shown (get_by (path_order p) old) in
      rw had (rw (some_shown w) (rw (mapped_length new.entries) (rw (mapped_length old.entries) count)));
  short = short;
}

one_more : {X : Type 0} (was : Option X) (old new : ℕ) → new ≡ old + (if is_some was then 0 else 1)
    → new + (if is_some was then 1 else 0) ≡ old + 1
one_more None old new len = omega (arith, len)
one_more (Some r) old new len = omega (arith, len)

-- what is put in is one more, or in another's place ..
pub count_in : {A : Type 0} (old new : BTreeMap (List (List ℕ)) (Representation A)) (p : List (List ℕ))
    (r : Representation A) (was : Option (Representation A))
    → was ≡ get path_order old p → btree_map_len new ≡ btree_map_len old + (if is_some was then 0 else 1)
    → length new.entries + (if is_some (get_by (path_order p) old) then 1 else 0)
    ≡ length old.entries + (if is_some (Some r) then 1 else 0)
count_in old new p r was is len = rw (← is) (one_more was (length old.entries) (length new.entries) len)

-- .. and what is taken out is one less, if there is any
pub count_out : {A : Type 0} (old new : BTreeMap (List (List ℕ)) (Representation A)) (p : List (List ℕ))
    (was : Option (Representation A))
    → was ≡ get_by (path_order p) old → btree_map_len new + (if is_some was then 1 else 0) ≡ btree_map_len old
    → length new.entries + (if is_some (get_by (path_order p) old) then 1 else 0) ≡ length old.entries + 0
count_out old new p was is len = rw (← is) (omega (arith, len))
