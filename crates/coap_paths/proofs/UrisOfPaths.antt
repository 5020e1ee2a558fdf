-- What is written of a path as the path of a URI is read as that path.
use Rattle.std.proofs.Common.{◌≡◌, ◌≢◌, ◌<◌, ◌+◌, ◌-◌, ◌*◌, ◌/◌, ◌%◌, ◌∙◌, ℕ, Bool, true, false, cond, ◌&&◌, ◌||◌, List}
use Rattle.std.proofs.Common.{[], ◌∷◌, ◌++◌, All, Some, None, ap, arith, eqb, map, nat_le, refl, sym, subst, fold}
use Rattle.std.specs.List.{flat_map}
use Rattle.std.proofs.lemmas.Bool.{true≢false}
use Rattle.std.proofs.lemmas.Bool.Decides.{nat_tests}
use Rattle.std.proofs.lemmas.List.{append_assoc, append-nil}
use Rattle.std.proofs.lemmas.List.Elements.{All-append, All-cons, All-head, All-nil, All-tail}
use Rattle.std.proofs.lemmas.List.Splits.{slice_split_at, slice_split_none}
use Rattle.coap_types.specs.Bytes.{AreBytes}
use Rattle.coap_types.specs.Path.{HoldsAtMost}
use Rattle.coap_paths.specs.Escapes.{hex_of, is_digit, is_escaped, or_zero, unescaped}
use Rattle.coap_paths.specs.PathTexts.{is_slash, parts}
use Rattle.coap_paths.specs.Uris.{IsNamed, behind_slash, digit_of, is_above, is_dots, is_root, is_same}
use Rattle.coap_paths.specs.Uris.{keeps, named, percent, resolved, stands, uri_escape, uri_path, uri_segment}
use Rattle.coap_paths.specs.Uris.{without_root}
use Rattle.coap_paths.proofs.KeptParts.{keeps_if}
use Rattle.coap_paths.proofs.ThereAndBack.{Bare, IsBack, bare_byte, bare_end, plain_first}

-- ---- digits

hex_low : (b : ℕ) → nat_le 48 b ≡ true → nat_le b 57 ≡ true → hex_of b ≡ Some (b - 48)
hex_low b p q = λ i. cond (p i && q i) (Some (b - 48)) (cond (nat_le 65 b && nat_le b 70) (Some (b - 65 + 10))
    (cond (nat_le 97 b && nat_le b 102) (Some (b - 97 + 10)) None))

hex_capital : (b : ℕ) → nat_le 48 b ≡ true → nat_le b 57 ≡ false → nat_le 65 b ≡ true → nat_le b 70 ≡ true
    → hex_of b ≡ Some (b - 65 + 10)
hex_capital b p q r s = λ i. cond (p i && q i) (Some (b - 48)) (cond (r i && s i) (Some (b - 65 + 10))
    (cond (nat_le 97 b && nat_le b 102) (Some (b - 97 + 10)) None))

digit_back : (n : ℕ) → n < 16 → hex_of (digit_of n) ≡ Some n
digit_back n lt = (elim (nat_le n 9) as (λ t. nat_le n 9 ≡ t → hex_of (digit_of n) ≡ Some n) [
  | true ↦ λ t.
      let a : nat_le 48 (48 + n) ≡ true = grind (arith, nat_tests) in
      let b : nat_le (48 + n) 57 ≡ true = grind (arith, nat_tests, t) in
      let c : 48 + n - 48 ≡ n = omega arith in
      ap (λ x. hex_of (cond x (48 + n) (55 + n))) t ∙ hex_low (48 + n) a b ∙ ap (λ x. Some x) c
  | false ↦ λ t.
      let a : nat_le 48 (55 + n) ≡ true = grind (arith, nat_tests) in
      let b : nat_le (55 + n) 57 ≡ false = grind (arith, nat_tests, t) in
      let c : nat_le 65 (55 + n) ≡ true = grind (arith, nat_tests, t) in
      let d : nat_le (55 + n) 70 ≡ true = grind (arith, nat_tests) in
      let e : 55 + n - 65 + 10 ≡ n = grind (arith, nat_tests, t) in
      ap (λ x. hex_of (cond x (48 + n) (55 + n))) t ∙ hex_capital (55 + n) a b c d ∙ ap (λ x. Some x) e
]) refl

digit_bare : (n : ℕ) → is_slash (digit_of n) ≡ false
digit_bare n = (elim (nat_le n 9) as (λ t. nat_le n 9 ≡ t → is_slash (digit_of n) ≡ false) [
  | true ↦ λ t. (let a : eqb (48 + n) 47 ≡ false = grind (arith, nat_tests) in
      ap (λ x. eqb (cond x (48 + n) (55 + n)) 47) t ∙ a)
  | false ↦ λ t. (let a : eqb (55 + n) 47 ≡ false = grind (arith, nat_tests) in
      ap (λ x. eqb (cond x (48 + n) (55 + n)) 47) t ∙ a)
]) refl

-- ---- bytes

percent_back : (b : ℕ) (rest segment : List ℕ) → b < 256 → IsBack rest segment
    → IsBack (percent b ++ rest) (b ∷ segment)
percent_back b rest segment lt back =
    let high = digit_back (b / 16) (omega (arith, lt)) in
    let low = digit_back (b % 16) (omega arith) in
    let whole : b / 16 * 16 + b % 16 ≡ b = omega arith in
    record {
      says = (λ i. (or_zero (high i) * 16 + or_zero (low i)) ∷ back.says i) ∙ ap (λ x. x ∷ segment) whole;
      well = λ i. is_digit (high i) && is_digit (low i) && back.well i;
    }

percent_bare : (b : ℕ) → Bare (percent b)
percent_bare b =
    let low = digit_of (b % 16) ∷ [] in
    bare_byte 37 (digit_of (b / 16) ∷ low) refl (bare_byte (digit_of (b / 16)) low (digit_bare (b / 16))
    (bare_byte (digit_of (b % 16)) [] (digit_bare (b % 16)) bare_end))

not_standing : (b : ℕ) (c : ℕ) → stands c ≡ false → stands b ≡ true → eqb b c ≡ false
not_standing b c never is = (elim (eqb b c) as (λ t. eqb b c ≡ t → t ≡ false) [
  | true ↦ λ t. (let same : b ≡ c = grind (arith, nat_tests, t) in
      absurd (true≢false (sym is ∙ ap stands same ∙ never)))
  | false ↦ λ t. refl
]) refl

-- a byte stands as it is, or is escaped
by_stands : (P : ℕ → List ℕ → Type 0) → ((b : ℕ) → stands b ≡ true → P b (b ∷ [])) → ((b : ℕ) → P b (percent b))
    → (b : ℕ) → P b (uri_escape b)
by_stands P one other b = (elim (stands b) as (λ t. stands b ≡ t → P b (uri_escape b)) [
  | true ↦ λ t. subst (P b) (sym (ap (λ x. cond x (b ∷ []) (percent b)) t)) (one b t)
  | false ↦ λ t. subst (P b) (sym (ap (λ x. cond x (b ∷ []) (percent b)) t)) (other b)
]) refl

byte_back : (b : ℕ) (rest segment : List ℕ) → b < 256 → IsBack rest segment
    → IsBack (uri_escape b ++ rest) (b ∷ segment)
byte_back b rest segment lt back =
    by_stands (λ x text. x < 256 → IsBack (text ++ rest) (x ∷ segment))
    (λ x is small. plain_first x rest segment (not_standing x 37 refl is) back)
    (λ x small. percent_back x rest segment small back) b lt

byte_bare : (b : ℕ) → Bare (uri_escape b)
byte_bare b = by_stands (λ x text. Bare text)
    (λ x is. bare_byte x [] (not_standing x 47 refl is) bare_end) percent_bare b

-- ---- segments

all_back : (f : ℕ → List ℕ) → ((b : ℕ) (rest segment : List ℕ) → b < 256 → IsBack rest segment
    → IsBack (f b ++ rest) (b ∷ segment)) → (s : List ℕ) → AreBytes s → IsBack (flat_map f s) s
all_back f one [] bytes = record { says = refl; well = refl }
all_back f one (b ∷ bs) bytes = one b (flat_map f bs) bs (All-head (λ x. x < 256) b bs bytes)
    (all_back f one bs (All-tail (λ x. x < 256) b bs bytes))

all_bare : (f : ℕ → List ℕ) → ((b : ℕ) → Bare (f b)) → (s : List ℕ) → Bare (flat_map f s)
all_bare f one [] = bare_end
all_bare f one (b ∷ bs) = All-append (λ x. is_slash x ≡ false) (f b) (flat_map f bs) (one b) (all_bare f one bs)

-- it is one of both, as the first would be of dots
by_dots : (P : List ℕ → Type 0) (s : List ℕ) → (is_dots (flat_map uri_escape s) ≡ false → P (flat_map uri_escape s))
    → (is_dots (flat_map uri_escape s) ≡ true → P (flat_map percent s)) → P (uri_segment s)
by_dots P s plain dots = (elim (is_dots (flat_map uri_escape s)) as (λ t. is_dots (flat_map uri_escape s) ≡ t
    → P (uri_segment s)) [
      | true ↦ λ t. subst P (sym (ap (λ x. cond x (flat_map percent s) (flat_map uri_escape s)) t)) (dots t)
      | false ↦ λ t. subst P (sym (ap (λ x. cond x (flat_map percent s) (flat_map uri_escape s)) t)) (plain t)
    ]) refl

segment_back : (s : List ℕ) → AreBytes s → IsBack (uri_segment s) s
segment_back s bytes = by_dots (λ text. IsBack text s) s (λ t. all_back uri_escape byte_back s bytes)
    (λ t. all_back percent percent_back s bytes)

segment_bare : (s : List ℕ) → Bare (uri_segment s)
segment_bare s = by_dots Bare s (λ t. all_bare uri_escape byte_bare s) (λ t. all_bare percent percent_bare s)

no_dots : (s : List ℕ) → is_dots (flat_map uri_escape s) ≡ true → is_dots (flat_map percent s) ≡ false
no_dots [] t = refl
no_dots (b ∷ bs) t = refl

segment_plain : (s : List ℕ) → is_dots (uri_segment s) ≡ false
segment_plain s = by_dots (λ text. is_dots text ≡ false) s (λ t. t) (no_dots s)

-- ---- paths

abbrev tail_of : List (List ℕ) → List ℕ
tail_of path = flat_map (λ s. 47 ∷ uri_segment s) path

parts_of : (s : List ℕ) (path : List (List ℕ)) → parts (uri_segment s ++ tail_of path)
    ≡ uri_segment s ∷ map uri_segment path
parts_of s [] = ap parts (append-nil (uri_segment s)) ∙ slice_split_none is_slash (uri_segment s) (segment_bare s)
parts_of s (r ∷ path) =
    slice_split_at is_slash (uri_segment s) 47 (uri_segment r ++ tail_of path) (segment_bare s) refl
    ∙ ap (λ ps. uri_segment s ∷ ps) (parts_of r path)

all_read : (path : List (List ℕ)) → All AreBytes path → map unescaped (map uri_segment path) ≡ path
all_read [] bytes = refl
all_read (s ∷ path) bytes = λ i. (segment_back s (All-head AreBytes s path bytes)).says i
    ∷ all_read path (All-tail AreBytes s path bytes) i

all_well : (path : List (List ℕ)) → All AreBytes path → All (λ part. is_escaped part ≡ true) (map uri_segment path)
all_well [] bytes = All-nil (λ part. is_escaped part ≡ true)
all_well (s ∷ path) bytes = All-cons (λ part. is_escaped part ≡ true) (uri_segment s) (map uri_segment path)
    (segment_back s (All-head AreBytes s path bytes)).well (all_well path (All-tail AreBytes s path bytes))

-- parts none of which is of dots are kept
neither : (a b : Bool) → (a || b) ≡ false → (a ≡ false) × (b ≡ false)
neither true b e = cc
neither false b e = (refl, e)

abbrev Plain : List (List ℕ) → Type 0
Plain parts = All (λ p. is_dots p ≡ false) parts

all_plain : (path : List (List ℕ)) → Plain (map uri_segment path)
all_plain [] = All-nil (λ p. is_dots p ≡ false)
all_plain (s ∷ path) =
    All-cons (λ p. is_dots p ≡ false) (uri_segment s) (map uri_segment path) (segment_plain s) (all_plain path)

keeps_plain : (kept : List (List ℕ)) (part : List ℕ) → is_dots part ≡ false → keeps kept part ≡ kept ++ part ∷ []
keeps_plain kept part plain =
    let two = neither (is_same part) (is_above part) plain in keeps_if false false kept part two.0 two.1

folds_plain : (kept parts : List (List ℕ)) → Plain parts → fold keeps kept parts ≡ kept ++ parts
folds_plain kept [] plain = sym (append-nil kept)
folds_plain kept (p ∷ ps) plain =
    ap (λ k. fold keeps k ps) (keeps_plain kept p (All-head (λ x. is_dots x ≡ false) p ps plain))
    ∙ folds_plain (kept ++ p ∷ []) ps (All-tail (λ x. is_dots x ≡ false) p ps plain)
    ∙ append_assoc kept (p ∷ []) ps

ends_plain : (before : Bool) (parts : List (List ℕ)) → before ≡ false → Plain parts
    → fold (λ b p. is_dots p) before parts ≡ false
ends_plain before [] is plain = is
ends_plain before (p ∷ ps) is plain =
    ends_plain (is_dots p) ps (All-head (λ x. is_dots x ≡ false) p ps plain)
    (All-tail (λ x. is_dots x ≡ false) p ps plain)

resolved_plain : (parts : List (List ℕ)) → Plain parts → resolved parts ≡ parts
resolved_plain parts plain =
    (λ i. folds_plain [] parts plain i ++ cond (ends_plain false parts refl plain i) ([] ∷ []) []) ∙ append-nil parts

no_root : (parts : List (List ℕ)) → parts ≢ ([] ∷ []) → is_root parts ≡ false
no_root [] not = refl
no_root ([] ∷ []) not = absurd (not refl)
no_root ([] ∷ p ∷ ps) not = refl
no_root ((b ∷ bs) ∷ ps) not = refl

rootless : (parts : List (List ℕ)) → parts ≢ ([] ∷ []) → without_root parts ≡ parts
rootless parts not = ap (λ b. cond b [] parts) (no_root parts not)

parts_there : (s : List ℕ) (path : List (List ℕ)) → All AreBytes (s ∷ path) → (s ∷ path) ≢ ([] ∷ [])
    → named (behind_slash (uri_path (s ∷ path))) ≡ s ∷ path
parts_there s path bytes not =
    let segments = map uri_segment (s ∷ path) in
    let read = all_read (s ∷ path) bytes in
    let some : segments ≢ ([] ∷ []) = λ e. not (sym read ∙ ap (map unescaped) e) in
    ap (λ ps. map unescaped (without_root (resolved ps))) (parts_of s path)
    ∙ ap (λ ps. map unescaped (without_root ps)) (resolved_plain segments (all_plain (s ∷ path)))
    ∙ ap (map unescaped) (rootless segments some) ∙ read

-- the URI of a path says that path, but for that of one empty segment
pub read_back : (path : List (List ℕ)) → All AreBytes path → HoldsAtMost 16 255 path → path ≢ ([] ∷ [])
    → IsNamed (behind_slash (uri_path path)) path
read_back [] bytes fits not = record {
  escaped = All-cons (λ part. is_escaped part ≡ true) [] [] refl (All-nil (λ part. is_escaped part ≡ true));
  segments = refl;
  fits = fits;
}
read_back (s ∷ path) bytes fits not = record {
  escaped = subst (All (λ part. is_escaped part ≡ true)) (sym (parts_of s path)) (all_well (s ∷ path) bytes);
  segments = sym (parts_there s path bytes not);
  fits = fits;
}
