-- What is written of a path is read as that path.
use Rattle.std.proofs.Common.{◌≡◌, ◌≢◌, ◌+◌, ◌*◌, ℕ, true, false, not, cond, ◌&&◌, List, [], ◌∷◌, ◌++◌}
use Rattle.std.proofs.Common.{map, refl, sym, ap, ◌∙◌, subst, arith, eqb, All, drop}
use Rattle.std.proofs.lemmas.Bool.Decides.{nat_tests}
use Rattle.std.proofs.lemmas.List.{append_assoc, append-nil}
use Rattle.std.proofs.lemmas.List.Elements.{All-append, All-cons}
use Rattle.std.proofs.lemmas.List.Splits.{slice_split_at, slice_split_none}
use Rattle.coap_types.specs.Path.{HoldsAtMost}
use Rattle.coap_paths.specs.PathTexts.{SpellsPath, is_slash, parts, segments_in, spelled, text_of, without_slash}
use Rattle.coap_paths.specs.Escapes.{escape, escaped, hex_of, or_zero, is_digit, is_escaped, unescaped}

-- the text is well escaped, and says the segment
pub record IsBack (text segment : List ℕ) : Type 0 where
  pub says : unescaped text ≡ segment
  pub well : is_escaped text ≡ true

-- a byte that is no percent sign says itself
pub plain_first : (b : ℕ) (rest segment : List ℕ) → eqb b 37 ≡ false → IsBack rest segment
    → IsBack (b ∷ rest) (b ∷ segment)
plain_first b [] segment plain back = record { says = ap (λ l. b ∷ l) back.says; well = ap not plain }
plain_first b (h ∷ []) segment plain back =
    record { says = ap (λ l. b ∷ l) back.says; well = ap (λ x. not x && is_escaped (h ∷ [])) plain ∙ back.well }
plain_first b (h ∷ l ∷ bs) segment plain back = record {
  says = ap (λ x. cond x ((or_zero (hex_of h) * 16 + or_zero (hex_of l)) ∷ unescaped bs) (b ∷ unescaped (h ∷ l ∷ bs)))
      plain ∙ ap (λ x. b ∷ x) back.says;
  well = ap (λ x. cond x (is_digit (hex_of h) && is_digit (hex_of l) && is_escaped bs) (is_escaped (h ∷ l ∷ bs))) plain
      ∙ back.well;
}

slash_first : (rest segment : List ℕ) → IsBack rest segment → IsBack (37 ∷ 50 ∷ 70 ∷ rest) (47 ∷ segment)
slash_first rest segment back = record { says = ap (λ l. 47 ∷ l) back.says; well = back.well }

percent_first : (rest segment : List ℕ) → IsBack rest segment → IsBack (37 ∷ 50 ∷ 53 ∷ rest) (37 ∷ segment)
percent_first rest segment back = record { says = ap (λ l. 37 ∷ l) back.says; well = back.well }

-- a byte is a slash, a percent sign, or neither, and then it is written as it is
by_escape : (P : ℕ → List ℕ → Type 0) → P 47 (37 ∷ 50 ∷ 70 ∷ []) → P 37 (37 ∷ 50 ∷ 53 ∷ [])
    → ((b : ℕ) → eqb b 47 ≡ false → eqb b 37 ≡ false → P b (b ∷ [])) → (b : ℕ) → P b (escape b)
by_escape P slash percent plain b = (elim (eqb b 47) as (λ t. eqb b 47 ≡ t → P b (escape b)) [
  | true ↦ λ t. (let is : b ≡ 47 = grind (arith, nat_tests) in subst (λ x. P x (escape x)) (sym is) slash)
  | false ↦ λ t. (elim (eqb b 37) as (λ p. eqb b 37 ≡ p → P b (escape b)) [
    | true ↦ λ p. (let is : b ≡ 37 = grind (arith, nat_tests) in subst (λ x. P x (escape x)) (sym is) percent)
    | false ↦ λ p. subst (P b) (sym (plain_escape b t p)) (plain b t p)
  ]) refl
]) refl
  where
    plain_escape : (b : ℕ) → eqb b 47 ≡ false → eqb b 37 ≡ false → escape b ≡ b ∷ []
    plain_escape b t p = λ i. cond (t i) (37 ∷ 50 ∷ 70 ∷ []) (cond (p i) (37 ∷ 50 ∷ 53 ∷ []) (b ∷ []))

byte_first : (b : ℕ) (rest segment : List ℕ) → IsBack rest segment → IsBack (escape b ++ rest) (b ∷ segment)
byte_first b rest segment back = by_escape (λ x text. IsBack (text ++ rest) (x ∷ segment))
    (slash_first rest segment back) (percent_first rest segment back)
    (λ x no_slash no_percent. plain_first x rest segment no_percent back) b

segment_back : (segment : List ℕ) → IsBack (escaped segment) segment
segment_back [] = record { says = refl; well = refl }
segment_back (b ∷ bs) = byte_first b (escaped bs) bs (segment_back bs)

-- what is written of a segment has no slash
abbrev pub Bare : List ℕ → Type 0
Bare text = All (λ x. is_slash x ≡ false) text

pub bare_byte : (b : ℕ) (rest : List ℕ) → is_slash b ≡ false → Bare rest → Bare (b ∷ rest)
bare_byte b rest plain bare = All-cons (λ x. is_slash x ≡ false) b rest plain bare

pub bare_end : Bare []
bare_end = λ k d lt. absurd (omega (arith, lt))

escape_bare : (b : ℕ) → Bare (escape b)
escape_bare b = by_escape (λ x text. Bare text)
    (bare_byte 37 (50 ∷ 70 ∷ []) refl (bare_byte 50 (70 ∷ []) refl (bare_byte 70 [] refl bare_end)))
    (bare_byte 37 (50 ∷ 53 ∷ []) refl (bare_byte 50 (53 ∷ []) refl (bare_byte 53 [] refl bare_end)))
    (λ x no_slash no_percent. bare_byte x [] no_slash bare_end) b

escaped_bare : (segment : List ℕ) → Bare (escaped segment)
escaped_bare [] = bare_end
escaped_bare (b ∷ bs) = All-append (λ x. is_slash x ≡ false) (escape b) (escaped bs) (escape_bare b) (escaped_bare bs)

-- .. so its parts are its segments
parts_of : (s : List ℕ) (path : List (List ℕ)) → parts (escaped s ++ text_of path) ≡ escaped s ∷ map escaped path
parts_of s [] = ap parts (append-nil (escaped s)) ∙ slice_split_none is_slash (escaped s) (escaped_bare s)
parts_of s (r ∷ path) =
    slice_split_at is_slash (escaped s) 47 (escaped r ++ text_of path) (escaped_bare s) refl
    ∙ ap (λ ps. escaped s ∷ ps) (parts_of r path)

all_back : (path : List (List ℕ)) → map unescaped (map escaped path) ≡ path
all_back [] = refl
all_back (s ∷ path) = λ i. (segment_back s).says i ∷ all_back path i

all_well : (path : List (List ℕ)) → All (λ part. is_escaped part ≡ true) (map escaped path)
all_well [] = λ k d lt. absurd (omega (arith, lt))
all_well (s ∷ path) =
    All-cons (λ part. is_escaped part ≡ true) (escaped s) (map escaped path) (segment_back s).well (all_well path)

-- the text of a segment is empty only where the segment is
escape_some : (b : ℕ) (rest : List ℕ) → escape b ++ rest ≢ []
escape_some b rest = by_escape (λ x text. text ++ rest ≢ []) (λ e. cc) (λ e. cc) (λ x no_slash no_percent. λ e. cc) b

empty : (s : List ℕ) (path : List (List ℕ)) → escaped s ++ text_of path ≡ [] → (s ∷ path) ≡ ([] ∷ [])
empty [] [] e = refl
empty [] (r ∷ path) e = absurd cc
empty (b ∷ bs) path e =
    absurd (escape_some b (escaped bs ++ text_of path) (sym (append_assoc (escape b) (escaped bs) (text_of path)) ∙ e))

segments_of_text : (s : List ℕ) (path : List (List ℕ)) → (s ∷ path) ≢ ([] ∷ []) → (text : List ℕ)
    → text ≡ escaped s ++ text_of path → segments_in text ≡ escaped s ∷ map escaped path
segments_of_text s path not [] is = absurd (not (empty s path (sym is)))
segments_of_text s path not (b ∷ bs) is = ap parts is ∙ parts_of s path

-- the text of a path spells that path, but for that of one empty segment
pub there_and_back : (path : List (List ℕ)) → path ≢ ([] ∷ []) → spelled (text_of path) ≡ path
there_and_back [] not = refl
there_and_back (s ∷ path) not =
    ap (map unescaped) (segments_of_text s path not (escaped s ++ text_of path) refl) ∙ all_back (s ∷ path)

segments_well : (path : List (List ℕ)) → path ≢ ([] ∷ [])
    → All (λ part. is_escaped part ≡ true) (segments_in (without_slash (text_of path)))
segments_well [] not = λ k d lt. absurd (omega (arith, lt))
segments_well (s ∷ path) not =
    subst (All (λ part. is_escaped part ≡ true)) (sym (segments_of_text s path not (escaped s ++ text_of path) refl))
    (all_well (s ∷ path))

pub text_spells : (path : List (List ℕ)) → path ≢ ([] ∷ []) → HoldsAtMost 16 255 path → SpellsPath (text_of path)
text_spells path not fits = record {
  well = segments_well path not;
  fits = subst (HoldsAtMost 16 255) (sym (there_and_back path not)) fits;
}

-- two paths never have one text
pub one_path : (p q : List (List ℕ)) → text_of p ≡ text_of q → p ≡ q
one_path [] [] same = refl
one_path [] (r ∷ q) same = absurd cc
one_path (s ∷ p) [] same = absurd cc
one_path (s ∷ p) (r ∷ q) same =
    let parts_same : map escaped (s ∷ p) ≡ map escaped (r ∷ q) =
    sym (parts_of s p) ∙ (ap (λ text. parts (drop 1 text)) same ∙ parts_of r q) in
    sym (all_back (s ∷ p)) ∙ (ap (map unescaped) parts_same ∙ all_back (r ∷ q))
