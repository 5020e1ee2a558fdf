-- The parts of a text between its slashes are taken one after the other.
use Rattle.std.proofs.Common.{◌≡◌, ◌≢◌, ◌∙◌, ap, sym, subst, ℕ, Bool, false, List, [], ◌∷◌, ◌++◌, All, length, map}
use Rattle.std.proofs.Common.{arith, eqb, true≢false, refl}
use Rattle.std.proofs.lemmas.Bool.Decides.{nat_tests}
use Rattle.std.proofs.lemmas.List.{append_assoc, length-map}
use Rattle.std.proofs.lemmas.List.Splits.{length-slice_split, slice_split_at, slice_split_none}
use Rattle.coap_paths.specs.Escapes.{unescaped}
use Rattle.coap_paths.specs.PathTexts.{HasNoSlash, IsCut, Makes, is_slash, parts, segments_in}

no_slash : (b : ℕ) → b ≢ 47 → eqb b 47 ≡ false
no_slash b e = grind (arith, nat_tests)

bare : (bytes : List ℕ) → HasNoSlash bytes → All (λ b. is_slash b ≡ false) bytes
bare bytes h = λ k d lt. no_slash _ (h k d lt)

-- the first one
pub first_part : (left first rest : List ℕ) → IsCut left first rest → parts left ≡ first ∷ parts rest
first_part left first rest cut = ap parts cut.0 ∙ slice_split_at is_slash first 47 rest (bare first cut.1) refl

-- a part more, of those that are left
pub one_on : (path whole : List (List ℕ)) (left first rest : List ℕ) → path ++ parts left ≡ whole
    → IsCut left first rest → (path ++ first ∷ []) ++ parts rest ≡ whole
one_on path whole left first rest so cut =
    append_assoc path (first ∷ []) (parts rest) ∙ ap (λ ps. path ++ ps) (sym (first_part left first rest cut)) ∙ so

-- the last one
pub the_last : (path whole : List (List ℕ)) (left : List ℕ) → path ++ parts left ≡ whole → HasNoSlash left
    → path ++ left ∷ [] ≡ whole
the_last path whole left so none = ap (λ ps. path ++ ps) (sym (slice_split_none is_slash left (bare left none))) ∙ so

-- .. and both as segments
pub one_read : (path whole : List (List ℕ)) (left first rest : List ℕ) → path ++ map unescaped (parts left) ≡ whole
    → IsCut left first rest → (path ++ unescaped first ∷ []) ++ map unescaped (parts rest) ≡ whole
one_read path whole left first rest so cut =
    append_assoc path (unescaped first ∷ []) (map unescaped (parts rest))
    ∙ ap (λ ps. path ++ map unescaped ps) (sym (first_part left first rest cut)) ∙ so

pub last_read : (path whole : List (List ℕ)) (left : List ℕ) → path ++ map unescaped (parts left) ≡ whole
    → HasNoSlash left → path ++ unescaped left ∷ [] ≡ whole
last_read path whole left so none =
    ap (λ ps. path ++ map unescaped ps) (sym (slice_split_none is_slash left (bare left none))) ∙ so

-- the parts are the segments, where the text is not empty
pub all_of : (rest : List ℕ) (b : Bool) → b ≡ eqb (length rest) 0 → b ≡ false → segments_in rest ≡ parts rest
all_of [] b is e = absurd (true≢false (sym is ∙ e))
all_of (x ∷ xs) b is e = refl

-- .. and there is at least one
some_part : (text : List ℕ) → map unescaped (parts text) ≢ []
some_part text e =
    let count = length-slice_split is_slash text in
    let same = length-map (parts text) unescaped in
    let none = ap length e in
    omega arith

pub spells_some : (rest whole : List ℕ) (b : Bool) → b ≡ eqb (length rest) 0 → b ≡ false → rest ≡ whole
    → Makes (parts rest) → Makes (segments_in whole) × (map unescaped (segments_in whole) ≢ [])
spells_some rest whole b is not_empty same makes =
    let all : parts rest ≡ segments_in whole = sym (all_of rest b is not_empty) ∙ ap segments_in same in
    (subst Makes all makes, subst (λ ps. map unescaped ps ≢ []) all (some_part rest))
