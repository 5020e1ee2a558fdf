-- Segments of dots go, one after the other.
use Rattle.std.proofs.Common.{◌≡◌, ◌∙◌, ◌-◌, ◌<◌, ap, sym, refl, subst, ℕ, Bool, true, false, cond, List, [], ◌∷◌, ◌++◌}
use Rattle.std.proofs.Common.{All, arith, fold, get_or, length, map, Result, Ok, Err}
use Rattle.std.specs.Borrow.{Bor}
use Rattle.std.specs.List.{Any}
use Rattle.std.specs.Result.{IsErrAnd, OnOk}
use Rattle.std.specs.Str.{bytes_eq}
use Rattle.std.proofs.lemmas.List.{append-nil, get_or-map, length-map, map_push}
use Rattle.std.proofs.lemmas.List.Elements.{All-append, All-cons, All-head, All-nil, All-tail, All-take}
use Rattle.std.proofs.lemmas.List.Sums.{fold-append}
use Rattle.std.proofs.lemmas.Slice.Eq.{bytes_eq-Decides}
use Rattle.coap_paths.specs.Escapes.{is_escaped, unescaped}
use Rattle.coap_paths.specs.PathTexts.{parts}
use Rattle.coap_paths.specs.Uris.{all_but_last, ends_in_dots, is_above, is_dots, is_root, is_same, keeps, named}
use Rattle.coap_paths.specs.Uris.{resolved}
use Rattle.coap_paths.specs.Uris.{without_root}

differs : (a b : List ℕ) → (a ≡ b → ⊥) → bytes_eq a b ≡ false
differs a b not = (elim (bytes_eq a b) as (λ t. bytes_eq a b ≡ t → t ≡ false) [
  | true ↦ λ same. absurd (not ((bytes_eq-Decides a b).0 same))
  | false ↦ λ other. refl
]) refl

pub keeps_same : (kept : List (List ℕ)) (part : List ℕ) → part ≡ 46 ∷ [] → keeps kept part ≡ kept
keeps_same kept part is = ap (keeps kept) is

pub keeps_above : (kept : List (List ℕ)) (part : List ℕ) → part ≡ 46 ∷ 46 ∷ [] → keeps kept part ≡ all_but_last kept
keeps_above kept part is = ap (keeps kept) is

pub keeps_if : (same above : Bool) (kept : List (List ℕ)) (part : List ℕ) → is_same part ≡ same → is_above part ≡ above
    → keeps kept part ≡ cond same kept (cond above (all_but_last kept) (kept ++ part ∷ []))
keeps_if same above kept part s a = λ i. cond (s i) kept (cond (a i) (all_but_last kept) (kept ++ part ∷ []))

pub keeps_other : (kept : List (List ℕ)) (part : List ℕ) → (part ≡ 46 ∷ [] → ⊥) → (part ≡ 46 ∷ 46 ∷ [] → ⊥)
    → keeps kept part ≡ kept ++ part ∷ []
keeps_other kept part no_same no_above =
    keeps_if false false kept part (differs part (46 ∷ []) no_same) (differs part (46 ∷ 46 ∷ []) no_above)

-- what a test holds of, of each part and of nothing, it holds of what is kept
module _ (P : List ℕ → Type 0) where
  keeps_each : (kept : List (List ℕ)) (part : List ℕ) → All P kept → P part → All P (keeps kept part)
  keeps_each kept part each one =
      subst (All P) (sym (keeps_if (is_same part) (is_above part) kept part refl refl))
      (go (is_same part) (is_above part))
    where
      go : (s a : Bool) → All P (cond s kept (cond a (all_but_last kept) (kept ++ part ∷ [])))
      go true a = each
      go false true = All-take P (length kept - 1) kept each
      go false false = All-append P kept (part ∷ []) each (All-cons P part [] one (All-nil P))

  folds_each : (kept parts : List (List ℕ)) → All P kept → All P parts → All P (fold keeps kept parts)
  folds_each kept [] each all = each
  folds_each kept (part ∷ parts) each all =
      folds_each (keeps kept part) parts
      (keeps_each kept part each (All-head P part parts all))
      (All-tail P part parts all)

  pub resolved_each : (parts : List (List ℕ)) → All P parts → P [] → All P (resolved parts)
  resolved_each parts all none =
      All-append P (fold keeps [] parts) _ (folds_each [] parts (All-nil P) all) (go (ends_in_dots parts))
    where
      go : (b : Bool) → All P (cond b ([] ∷ []) [])
      go true = All-cons P [] [] none (All-nil P)
      go false = All-nil P

-- one part more
pub kept_more : (parts : List (List ℕ)) (part : List ℕ)
    → fold keeps [] (parts ++ part ∷ []) ≡ keeps (fold keeps [] parts) part
kept_more parts part = fold-append keeps [] parts (part ∷ [])

pub dots_more : (parts : List (List ℕ)) (part : List ℕ) → ends_in_dots (parts ++ part ∷ []) ≡ is_dots part
dots_more parts part = fold-append (λ before p. is_dots p) false parts (part ∷ [])

pub kept_other : {T E : Type 0} (r : Result T E) (old new : List (Bor (List ℕ))) (part : Bor (List ℕ))
    → OnOk r (new ≡ old ++ part ∷ []) → (part.now ≡ 46 ∷ [] → ⊥) → (part.now ≡ 46 ∷ 46 ∷ [] → ⊥)
    → OnOk r (map (λ s. s.now) new ≡ keeps (map (λ s. s.now) old) part.now)
kept_other (Ok x) old new part is no_same no_above =
    ap (map (λ s. s.now)) is ∙ map_push (λ s. s.now) old part
    ∙ sym (keeps_other (map (λ s. s.now) old) part.now no_same no_above)
kept_other (Err e) old new part is no_same no_above = tt

-- at the end: the last part is of dots, or it isn't
pub closed_plain : (parts kept : List (List ℕ)) (ends : Bool) → kept ≡ fold keeps [] parts → ends ≡ ends_in_dots parts
    → ends ≡ false → kept ≡ resolved parts
closed_plain parts kept ends so dots off =
    so ∙ sym (append-nil (fold keeps [] parts))
    ∙ ap (λ b. fold keeps [] parts ++ cond b ([] ∷ []) []) (sym off ∙ dots)

pub closed_dots : (parts kept : List (List ℕ)) (ends : Bool) → kept ≡ fold keeps [] parts → ends ≡ ends_in_dots parts
    → ends ≡ true → kept ++ [] ∷ [] ≡ resolved parts
closed_dots parts kept ends so dots on =
    ap (λ l. l ++ [] ∷ []) so ∙ ap (λ b. fold keeps [] parts ++ cond b ([] ∷ []) []) (sym on ∙ dots)

-- ---- what is kept becomes the path

maps_twice : (items : List (Bor (List ℕ))) → map unescaped (map (λ s. s.now) items) ≡ map (λ s. unescaped s.now) items
maps_twice [] = refl
maps_twice (x ∷ xs) = ap (λ l. unescaped x.now ∷ l) (maps_twice xs)

module _ (items : List (Bor (List ℕ))) (text : List ℕ) (kept : map (λ s. s.now) items ≡ resolved (parts text))
    (some : is_root (map (λ s. s.now) items) ≡ false) where
  pub named_items : map (λ s. unescaped s.now) items ≡ named text
  named_items = sym (maps_twice items) ∙ ap (map unescaped)
      (sym (ap (λ b. cond b [] (map (λ s. s.now) items)) some) ∙ ap without_root kept)

  pub long_at : (i : ℕ) (item : Bor (List ℕ)) → i < length items → 255 < length (unescaped (get_or items i item).now)
      → Any (λ s. 255 < length s) (named text)
  long_at i item lt long = (
    i,
    unescaped (get_or items i item).now,
    subst (λ l. i < length l) named_items (omega (arith, lt, length-map items (λ s. unescaped s.now))),
    ap (λ l. get_or l i (unescaped (get_or items i item).now)) (sym named_items)
        ∙ get_or-map (λ s. unescaped s.now) items i item _ lt,
    long,
  )

pub each_at : (items : List (Bor (List ℕ))) (i : ℕ) (item : Bor (List ℕ))
    → All (λ s. is_escaped s ≡ true) (map (λ s. s.now) items) → i < length items
    → is_escaped (get_or items i item).now ≡ true
each_at items i item each lt =
    ap is_escaped (sym (get_or-map (λ s. s.now) items i item [] lt))
    ∙ each i [] (omega (arith, lt, length-map items (λ (s : Bor (List ℕ)). s.now)))

-- `?` hands on this refusal
pub handed_on : {T E : Type 0} (r : Result T E) (e known : E) → IsErrAnd r (λ y. y ≡ e) → r ≡ Err known → e ≡ known
handed_on (Ok x) e known is same = absurd is
handed_on (Err y) e known is same = sym is ∙ cc
