-- The delays of paths: one makes way for another of its path.
use Rattle.std.proofs.Common.{◌≡◌, ℕ, zero, suc, ◌+◌, ◌<◌, ◌≤◌, Bool, true, false, not, List, [], ◌∷◌, ◌++◌, length}
use Rattle.std.proofs.Common.{remove, get_or, Some, IfSome, is_some, cond, refl}
use Rattle.std.proofs.Common.{ap, sym, ◌∙◌, arith}
use Rattle.std.proofs.lemmas.Bool.{ltb-true, ltb-false}
use Rattle.std.specs.List.{slice_get}
use Rattle.coap_types.specs.Path.{same_path}
use Rattle.coap_types.proofs.Facts.Paths.{same_path-decides}
use Rattle.coap_server.specs.Trace as T
use Rattle.coap_server.specs.Deferring.{others, delay_of, delays_with, may_delay}
use Rattle.coap_server.specs.declared.server.parts.Delay.{Delay}
use Rattle.coap_server.specs.Turns.DelaysShown.{delays_as, delays_of_others}

module _ {A : Type 0} (path : List (List ℕ)) where
  -- those of other paths, as the law has them
  pub others_as : (ds : List (Delay A)) → delays_as (delays_of_others path ds) ≡ others path (delays_as ds)
  others_as [] = refl
  others_as (d ∷ ds) = by (same_path d.path path) (others_as ds)
    where
      by : (b : Bool) → delays_as (delays_of_others path ds) ≡ others path (delays_as ds)
          → delays_as (cond (not b) (d ∷ delays_of_others path ds) (delays_of_others path ds))
          ≡ cond (not b) (record { path = d.path; ms = d.ms } ∷ others path (delays_as ds))
          (others path (delays_as ds))
      by true e = e
      by false e = ap (λ (xs : List T.Delay). record { path = d.path; ms = d.ms } ∷ xs) e

  pub as_append : (ds es : List (Delay A)) → delays_as (ds ++ es) ≡ delays_as ds ++ delays_as es
  as_append [] es = refl
  as_append (d ∷ ds) es = ap (λ (xs : List T.Delay). record { path = d.path; ms = d.ms } ∷ xs) (as_append ds es)

  -- one of the path is none of the others
  pub others_without : (ds : List (Delay A)) (i : ℕ) → i < length ds → IfSome (slice_get ds i) (λ d. d.path ≡ path)
      → delays_of_others path (remove ds i) ≡ delays_of_others path ds
  others_without [] i within h = absurd (omega (arith, within))
  others_without (x ∷ ds) zero within h =
      let is : same_path x.path path ≡ true = (same_path-decides x.path path).1 h in
      sym (ap (λ b. cond (not b) (x ∷ delays_of_others path ds) (delays_of_others path ds)) is)
  others_without (x ∷ ds) (suc i) within h =
      ap (λ (xs : List (Delay A)). cond (not (same_path x.path path)) (x ∷ xs) xs)
      (others_without ds i (omega (arith, within)) h)

  -- one behind the others
  pub with_last : (new old : List (Delay A)) (e : Delay A) (ms : ℕ) → new ≡ delays_of_others path old ++ e ∷ []
      → e.path ≡ path → e.ms ≡ ms
      → delays_as new ≡ delays_with path ms true (delays_as old)
  with_last new old e ms is there late =
      ap delays_as is ∙ (as_append (delays_of_others path old) (e ∷ [])
      ∙ (ap (λ (xs : List T.Delay). xs ++ record { path = e.path; ms = e.ms } ∷ []) (others_as old)
      ∙ (ap (λ (p : List (List ℕ)). others path (delays_as old) ++ record { path = p; ms = e.ms } ∷ []) there
      ∙ ap (λ (n : ℕ). others path (delays_as old) ++ record { path = path; ms = n } ∷ []) late)))

  pub with_kept : (new kept old : List (Delay A)) (e : Delay A) (ms : ℕ) → new ≡ kept ++ e ∷ []
      → kept ≡ delays_of_others path old → e.path ≡ path → e.ms ≡ ms
      → delays_as new ≡ delays_with path ms true (delays_as old)
  with_kept new kept old e ms is others_is there late =
      with_last new old e ms (is ∙ ap (λ (xs : List (Delay A)). xs ++ e ∷ []) others_is) there late

  -- the one at a place makes way for the one behind the others
  pub replaced : (new kept left old : List (Delay A)) (i : ℕ) (e : Delay A) (ms : ℕ) → i < length old
      → IfSome (slice_get old i) (λ d. d.path ≡ path)
      → left ≡ remove old i → kept ≡ delays_of_others path left → new ≡ kept ++ e ∷ [] → e.path ≡ path → e.ms ≡ ms
      → delays_as new ≡ delays_with path ms true (delays_as old)
  replaced new kept left old i e ms within at removed others_is is there late =
      with_last new old e ms (is ∙ ap (λ (xs : List (Delay A)). xs ++ e ∷ [])
      (others_is ∙ (ap (delays_of_others path) removed ∙ others_without old i within at))) there late

  -- what is read at a place
  pub path_at : (ds : List (Delay A)) (i : ℕ) (d e : Delay A) → i < length ds → d ≡ get_or ds i e
      → IfSome (slice_get ds i) (λ x. x.path ≡ path) → d.path ≡ path
  path_at [] i d e within is h = absurd (omega (arith, within))
  path_at (x ∷ ds) zero d e within is h = ap (λ (z : Delay A). z.path) is ∙ h
  path_at (x ∷ ds) (suc i) d e within is h = path_at ds i d e (omega (arith, within)) is h

  -- where it has one, not all are of others
  pub some_of : (ds : List (Delay A)) → is_some (delay_of path (delays_as ds)) ≡ true
      → length (delays_of_others path ds) < length ds
  some_of [] h = absurd (cc h)
  some_of (d ∷ ds) h = by (same_path d.path path) h (some_of ds) (fewer ds)
    where
      fewer : (es : List (Delay A)) → length (delays_of_others path es) < length es + 1
      fewer [] = omega arith
      fewer (e ∷ es) = step (same_path e.path path) (fewer es)
        where
          step : (b : Bool) → length (delays_of_others path es) < length es + 1
              → length (cond (not b) (e ∷ delays_of_others path es) (delays_of_others path es)) < length (e ∷ es) + 1
          step true k = omega (arith, k)
          step false k = omega (arith, k)

      by : (b : Bool) → is_some (cond b (Some d.ms) (delay_of path (delays_as ds))) ≡ true
          → (is_some (delay_of path (delays_as ds)) ≡ true → length (delays_of_others path ds) < length ds)
          → length (delays_of_others path ds) < length ds + 1
          → length (cond (not b) (d ∷ delays_of_others path ds) (delays_of_others path ds)) < length (d ∷ ds)
      by true k f most = omega (arith, most)
      by false k f most = let less = f k in omega (arith, less)

  -- whether there is a place

  count_as : (ds : List (Delay A)) → length (delays_as ds) ≡ length ds
  count_as [] = refl
  count_as (d ∷ ds) = let e = count_as ds in omega (arith, e)

  others_count : (ds : List (Delay A)) → length (others path (delays_as ds)) ≡ length (delays_of_others path ds)
  others_count ds = sym (ap length (others_as ds)) ∙ count_as (delays_of_others path ds)

  pub none_free : (ds : List (Delay A)) (n : ℕ) → n ≡ length (delays_of_others path ds) → 16 ≤ n
      → may_delay path (delays_as ds) ≡ false
  none_free ds n is full = by (may_delay path (delays_as ds)) refl
    where
      by : (b : Bool) → may_delay path (delays_as ds) ≡ b → b ≡ false
      by true e = let few : length (others path (delays_as ds)) < 16 = ltb-true _ _ e in let c =
          others_count ds in absurd (omega (arith, few, c, is, full))
      by false e = refl

  pub one_free : (ds : List (Delay A)) (n : ℕ) → n ≡ length (delays_of_others path ds) → n < 16
      → may_delay path (delays_as ds) ≡ true
  one_free ds n is free = by (may_delay path (delays_as ds)) refl
    where
      by : (b : Bool) → may_delay path (delays_as ds) ≡ b → b ≡ true
      by true e = refl
      by false e = let many : 16 ≤ length (others path (delays_as ds)) = ltb-false _ _ e in let c =
          others_count ds in absurd (omega (arith, many, c, is, free))
