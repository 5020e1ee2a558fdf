-- Paths, read from the values of an argument one by one.
use Rattle.std.proofs.Common.{◌≡◌, ◌<◌, ◌+◌, ◌⊎◌, ◌∙◌, ◌++◌, ◌∷◌, [], ap, sym, refl, subst, arith, ℕ, Any, List, length}
use Rattle.std.proofs.Common.{map, take, drop}
use Rattle.std.proofs.Common.{slice_index_or, inl, inr, Result, Ok, Err}
use Rattle.std.specs.Result.{IsErrAnd, MatchResult}
use Rattle.std.proofs.lemmas.List.{get_or-map, length-map, map-append, map_more, take-append-drop, take_all}
use Rattle.clap.specs.Words.{Row, Text}
use Rattle.coap_types.specs.Path.{HoldsAtMost}
use Rattle.coap_types.specs.declared.path.PathRefusal.{PathRefusal}
use Rattle.coap_types.specs.declared.path.PathRefusal.TheVariants as refusal
use Rattle.coap_types.specs.declared.path.TheConstants.{MAX_SEGMENT_LEN as max_segment_len}
use Rattle.coap_types.specs.declared.path.TheConstants.{MAX_SEGMENTS as max_segments}
use Rattle.coap_arguments.specs.PathText.{IsNoPath, IsPathText, IsTrueOf}
use Rattle.coap_arguments.specs.Plains.{HasNoPlain, HasTooManyPlains, IsWrongPlain, Names, plain_texts, with_path}
use Rattle.coap_arguments.specs.Wrongs.{wrong_path}
use Rattle.coap_arguments.specs.declared.orders.TheConstants.{MAX_PLAINS as max_plains}
use Rattle.coap_arguments.specs.declared.orders.Wrong.{Wrong}

pub none_named : (texts : List Text) (paths : List (List (List ℕ))) → texts ≡ [] → paths ≡ [] → Names [] texts paths
none_named texts paths no_text no_path = subst (λ (ts : List Text). Names [] ts paths) (sym no_text) no_path

more_named : (known : List (List (List ℕ))) (texts : List Text) (paths : List (List (List ℕ))) (text : Text)
    (path : List (List ℕ)) → Names known texts paths
    → IsPathText text path → HoldsAtMost max_segments max_segment_len path
    → Names known (texts ++ text ∷ []) (with_path path paths)
more_named known [] paths text path named is holds = (path, is, holds, ap (with_path path) named)
more_named known (t ∷ ts) paths text path named is holds =
    (named.0, named.1, named.2, more_named (with_path named.0 known) ts paths text path named.3 is holds)

module _ {X : Type 0} (f : X → Text) (xs : List X) (i : ℕ) (d : X) (lt : i < length xs) where
  pub one_more : (paths new : List (List (List ℕ))) (path : List (List ℕ)) → Names [] (map f (take i xs)) paths
      → IsPathText (f (slice_index_or xs i d)) path → HoldsAtMost max_segments max_segment_len path
      → new ≡ with_path path paths → Names [] (map f (take (i + 1) xs)) new
  one_more paths new path before is holds same =
      subst (λ (ps : List (List (List ℕ))). Names [] (map f (take (i + 1) xs)) ps) (sym same)
      (subst (λ (ts : List Text). Names [] ts (with_path path paths)) (sym (map_more f xs i d lt))
      (more_named [] (map f (take i xs)) paths (f (slice_index_or xs i d)) path before is holds))

  pub refused_at : (values : List Row) (why : PathRefusal) → plain_texts values ≡ map f xs
      → IsNoPath (f (slice_index_or xs i d)) × IsTrueOf why (f (slice_index_or xs i d)) → HasNoPlain values why
  refused_at values why same refused =
      let x = f (slice_index_or xs i d) in
      subst (λ (ts : List Text). Any (λ text. IsNoPath text × IsTrueOf why text) ts) (sym same)
      (i, x, subst (λ n. i < n) (sym (length-map xs f)) lt, get_or-map f xs i d x lt, refused)

  -- a text that says no path is wrong, for its reason
  pub path_wrong : {T : Type 0} (values : List Row) (r : Result T Wrong) (P : T → Type 0) (why : PathRefusal)
      → plain_texts values ≡ map f xs → IsErrAnd r (λ w. w ≡ wrong_path why)
      → (why ≡ refusal.Memory) ⊎ (IsNoPath (f (slice_index_or xs i d)) × IsTrueOf why (f (slice_index_or xs i d)))
      → MatchResult r P (IsWrongPlain values)
  path_wrong values (Ok x) P why same is h = absurd is
  path_wrong values (Err w) P why same is h = subst (IsWrongPlain values) (sym is) (go why h)
    where
      go : (e : PathRefusal) → (e ≡ refusal.Memory)
          ⊎ (IsNoPath (f (slice_index_or xs i d)) × IsTrueOf e (f (slice_index_or xs i d)))
          → IsWrongPlain values (wrong_path e)
      go refusal.Memory h = tt
      go refusal.SegmentTooLong (inl h) = cc
      go refusal.SegmentTooLong (inr h) = refused_at values refusal.SegmentTooLong same h
      go refusal.TooManySegments (inl h) = cc
      go refusal.TooManySegments (inr h) = refused_at values refusal.TooManySegments same h

  pub too_many : (values : List Row) (paths : List (List (List ℕ))) (path : List (List ℕ)) → plain_texts values
      ≡ map f xs
      → Names [] (map f (take i xs)) paths → IsPathText (f (slice_index_or xs i d)) path
      → HoldsAtMost max_segments max_segment_len path
      → max_plains < length (with_path path paths) → HasTooManyPlains values
  too_many values paths path same before is holds more =
      let parts : map f xs ≡ map f (take (i + 1) xs) ++ map f (drop (i + 1) xs) =
      sym (ap (map f) (take-append-drop (i + 1) xs)) ∙ map-append f (take (i + 1) xs) (drop (i + 1) xs) in (
        map f (take (i + 1) xs),
        map f (drop (i + 1) xs),
        with_path path paths,
        same ∙ parts,
        one_more paths (with_path path paths) path before is holds refl,
        more,
      )

pub ended : {X : Type 0} (f : X → Text) (xs : List X) (i : ℕ) (texts : List Text) (paths : List (List (List ℕ)))
    → i ≡ length xs → texts ≡ map f xs → Names [] (map f (take i xs)) paths → Names [] texts paths
ended f xs i texts paths at_end same before =
    subst (λ (ts : List Text). Names [] ts paths) (sym same)
    (subst (λ ys. Names [] (map f ys) paths) (take_all i xs (omega arith)) before)
