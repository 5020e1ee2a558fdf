-- A text says one path, which is its parts between slashes.
use Rattle.std.proofs.Common.{◌≡◌, ◌≢◌, ◌∙◌, ◌⊎◌, ap, sym, refl, subst, ℕ, Bool, true, false, cond, ◌<◌, ◌≤◌, List}
use Rattle.std.proofs.Common.{[], ◌∷◌, length, get_or, Option, Some, None, arith, inl, inr, eqb, true≢false, Result}
use Rattle.std.proofs.Common.{Ok, Err}
use Rattle.std.specs.List.{All, Any, join_with_byte}
use Rattle.std.specs.Option.{MatchOption, unwrap_or}
use Rattle.std.specs.Result.{IfErr, IsErrAnd}
use Rattle.std.specs.Borrow.{Bor}
use Rattle.std.proofs.lemmas.Bool.Decides.{nat_tests}
use Rattle.std.proofs.lemmas.List.Elements.{All-cons, All-head, All-tail, All-nil}
use Rattle.std.proofs.lemmas.List.Splits.{join_with_byte-slice_split, slice_split_at, slice_split_none}
use Rattle.coap_types.specs.declared.path.PathRefusal.{PathRefusal}
use Rattle.coap_types.specs.declared.path.PathRefusal.TheVariants.{SegmentTooLong, TooManySegments, Memory}
use Rattle.coap_arguments.specs.PathText.{HasNoSlash, IsNoPath, IsPathText, IsTrueOf, Joins, is_slash, parts}
use Rattle.coap_arguments.specs.PathText.{without_leading_slash}

-- what is left once a leading `/` is taken off
pub rest_is : (text : Bor (List ℕ)) (r : Option (Bor (List ℕ)))
    → MatchOption r ((rest : List ℕ) → text.now ≢ 47 ∷ rest) (λ x. text.now ≡ 47 ∷ x.now)
    → (unwrap_or r text).now ≡ without_leading_slash text.now
rest_is text None h = go text.now h
  where
    go : (bs : List ℕ) → ((rest : List ℕ) → bs ≢ 47 ∷ rest) → bs ≡ without_leading_slash bs
    go [] other = refl
    go (b ∷ bs) other = at (eqb b 47) refl
      where
        at : (t : Bool) → eqb b 47 ≡ t → b ∷ bs ≡ cond t bs (b ∷ bs)
        at true e =
            let is : b ≡ 47 = grind (arith, nat_tests) in
            absurd (other bs (ap (λ x. x ∷ bs) is))
        at false e = refl
rest_is text (Some x) h = sym (ap without_leading_slash h)

slash_is : (b : ℕ) → eqb b 47 ≡ true → b ≡ 47
slash_is b e = grind (arith, nat_tests)

no_slash : (b : ℕ) → b ≢ 47 → eqb b 47 ≡ false
no_slash b e = grind (arith, nat_tests)

bare_part : (b : ℕ) (t : Bool) (ps : List (List ℕ)) → eqb b 47 ≡ t → All HasNoSlash ps
    → All HasNoSlash (cond t ([] ∷ ps) (Rattle.std.specs.List.onto_first b ps))
bare_part b true ps e h = All-cons HasNoSlash [] ps (All-nil (λ x. x ≢ 47)) h
bare_part b false [] e h =
    let first : b ≢ 47 = λ is. true≢false (sym (ap is_slash is) ∙ e) in
    All-cons HasNoSlash (b ∷ []) [] (All-cons (λ x. x ≢ 47) b [] first (All-nil (λ x. x ≢ 47))) h
bare_part b false (p ∷ ps) e h =
    let first : b ≢ 47 = λ is. true≢false (sym (ap is_slash is) ∙ e) in
    All-cons HasNoSlash (b ∷ p) ps (All-cons (λ x. x ≢ 47) b p first (All-head HasNoSlash p ps h))
    (All-tail HasNoSlash p ps h)

parts_bare : (bs : List ℕ) → All HasNoSlash (parts bs)
parts_bare [] = All-cons HasNoSlash [] [] (All-nil (λ x. x ≢ 47)) (All-nil HasNoSlash)
parts_bare (b ∷ bs) = bare_part b (eqb b 47) (parts bs) refl (parts_bare bs)

-- the parts between slashes are what the text says
pub parts_join : (rest : List ℕ) → rest ≢ [] → Joins rest (parts rest)
parts_join [] some = absurd (some refl)
parts_join (b ∷ bs) some = (sym (join_with_byte-slice_split 47 (b ∷ bs)), parts_bare (b ∷ bs))

bare_passes : (s : List ℕ) → HasNoSlash s → All (λ x. is_slash x ≡ false) s
bare_passes s h = λ k d lt. no_slash _ (h k d lt)

-- and nothing else is
parts_of_join : (x : List ℕ) (xs : List (List ℕ)) → All HasNoSlash (x ∷ xs)
    → parts (join_with_byte 47 (x ∷ xs)) ≡ x ∷ xs
parts_of_join x [] h = slice_split_none is_slash x (bare_passes x (All-head HasNoSlash x [] h))
parts_of_join x (y ∷ ys) h =
    slice_split_at is_slash x 47 (join_with_byte 47 (y ∷ ys)) (bare_passes x (All-head HasNoSlash x (y ∷ ys) h)) refl
    ∙ ap (λ l. x ∷ l) (parts_of_join y ys (All-tail HasNoSlash x (y ∷ ys) h))

pub joined_once : (rest : List ℕ) (segments : List (List ℕ)) → rest ≢ [] → Joins rest segments → segments ≡ parts rest
joined_once [] segments some h = absurd (some refl)
joined_once (b ∷ bs) [] some h = absurd (some h.0)
joined_once (b ∷ bs) (x ∷ xs) some h = sym (ap parts h.0 ∙ parts_of_join x xs h.1)

-- a text says one path
pub one_path : (rest : List ℕ) (xs ys : List (List ℕ)) → Joins rest xs → Joins rest ys → xs ≡ ys
one_path [] xs ys p q = p ∙ sym q
one_path (b ∷ bs) xs ys p q =
    let some : (b ∷ bs) ≢ [] = λ e. cc in
    joined_once (b ∷ bs) xs some p ∙ sym (joined_once (b ∷ bs) ys some q)

pub not_empty : (rest : List ℕ) (b : Bool) → b ≡ eqb (length rest) 0 → b ≡ false → rest ≢ []
not_empty [] b is e = λ same. true≢false (sym is ∙ e)
not_empty (x ∷ xs) b is e = λ same. cc

-- ---- refusals

module _ (text rest : List ℕ) (is : rest ≡ without_leading_slash text) (some : rest ≢ []) where
  pub says_parts : IsPathText text (parts rest)
  says_parts = subst (λ r. Joins r (parts rest)) is (parts_join rest some)

  said : (segments : List (List ℕ)) → IsPathText text segments → segments ≡ parts rest
  said segments says = joined_once rest segments some (subst (λ r. Joins r segments) (sym is) says)

  too_long : (i : ℕ) (x : List ℕ) → i < length (parts rest) → x ≡ get_or (parts rest) i x → 255 < length x
      → IsNoPath text × IsTrueOf SegmentTooLong text
  too_long i x lt at long = (
    λ segments says holds.
        let short : length (get_or (parts rest) i x) ≤ 255 =
        subst (All (λ s. length s ≤ 255)) (said segments says) holds.short i x lt in
        let len : length x ≡ length (get_or (parts rest) i x) = ap length at in
        omega arith,
    (parts rest, says_parts, (i, x, lt, sym at, long)),
  )

  too_many : (i : ℕ) → i < length (parts rest) → 16 ≤ i → IsNoPath text × IsTrueOf TooManySegments text
  too_many i lt many = (
    λ segments says holds.
        let few : length (parts rest) ≤ 16 = subst (λ l. length l ≤ 16) (said segments says) holds.few in
        omega arith,
    (parts rest, says_parts, omega arith),
  )

  -- each refusal of a part says why
  pub refused_part : (e : PathRefusal) (i : ℕ) (x : List ℕ) → i < length (parts rest) → x ≡ get_or (parts rest) i x
      → (e ≡ SegmentTooLong → 255 < length x)
      → (e ≡ TooManySegments → 16 ≤ i) → (e ≡ Memory) ⊎ (IsNoPath text × IsTrueOf e text)
  refused_part SegmentTooLong i x lt at long many = inr (too_long i x lt at (long refl))
  refused_part TooManySegments i x lt at long many = inr (too_many i lt (many refl))
  refused_part Memory i x lt at long many = inl refl

-- `?` passes a refusal up as it is
pub passed_up : {T E : Type 0} (r : Result T E) (e : E) (P : E → Type 0) → IsErrAnd r (λ y. y ≡ e) → P e → IfErr r P
passed_up (Ok x) e P is h = absurd is
passed_up (Err y) e P is h = subst P (sym is) h
