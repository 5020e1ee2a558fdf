-- A text is refused exactly where it spells no path: its parts are looked at one after the other.
use Rattle.std.proofs.Common.{◌≡◌, ◌≤◌, ◌<◌, ◌+◌, ◌↔◌, ◌∙◌, ap, ℕ, List, [], ◌∷◌, ◌++◌, All, length, map, sym, subst}
use Rattle.std.proofs.Common.{arith, length-append}
use Rattle.std.proofs.lemmas.List.{get_or-map, length-map}
use Rattle.std.proofs.lemmas.List.Elements.{All-append, All-cons, All-head, All-tail}
use Rattle.coap_paths.specs.Escapes.{unescaped}
use Rattle.coap_paths.specs.PathTexts.{HasNoSlash, IsCut, IsFit, IsPart, Makes, parts}
use Rattle.coap_paths.proofs.PathParts.{first_part, one_on, the_last}

-- parts that make a path, part by part
pub record AreParts (parts : List (List ℕ)) : Type 0 where
  pub few : length parts ≤ 16
  pub each : All IsPart parts

by_part : (ps : List (List ℕ)) → Makes ps → AreParts ps
by_part ps makes =
    let same = length-map ps unescaped in
    record {
      few = (let few : length (map unescaped ps) ≤ 16 = makes.fits.few in omega arith);
      each = λ k d lt. record {
        well = makes.well k d lt;
        short = subst (λ s. length s ≤ 255) (get_or-map unescaped ps k d [] lt)
            (makes.fits.short k [] (omega (arith, lt, same)));
      };
    }

together : (ps : List (List ℕ)) → AreParts ps → Makes ps
together ps are =
    let same = length-map ps unescaped in
    record {
      well = λ k d lt. (are.each k d lt).well;
      fits = record {
        few = (let few : length (map unescaped ps) ≤ 16 = omega (arith, same, are.few) in few);
        short = λ k d lt.
            let below : k < length ps = omega (arith, lt, same) in
            subst (λ s. length s ≤ 255) (sym (get_or-map unescaped ps k [] d below)) (are.each k [] below).short;
      };
    }

-- so many segments stand before the rest of the text, and they make a path
pub record IsReached (left : List ℕ) (count : ℕ) (text : List ℕ) : Type 0 where
  pub before : List (List ℕ)
  pub all : before ++ parts left ≡ parts text
  pub many : length before ≡ count
  pub fits : AreParts before

longer : (before : List (List ℕ)) (part : List ℕ) → AreParts before → IsFit part (length before)
    → AreParts (before ++ part ∷ [])
longer before part fits fit = record {
  few = (let place : length before < 16 = fit.1 in omega (arith, length-append before (part ∷ []), place));
  each = All-append IsPart before (part ∷ []) fits.each
      (All-cons IsPart part [] fit.0 (λ k d lt. absurd (omega (arith, lt))));
}

fitting : (before more : List (List ℕ)) (part : List ℕ) → All IsPart (before ++ part ∷ more) → IsPart part
fitting [] more part each = All-head IsPart part more each
fitting (s ∷ before) more part each =
    fitting before more part (All-tail IsPart s (before ++ part ∷ more) each)

fits_in : (before more : List (List ℕ)) (part : List ℕ) → AreParts (before ++ part ∷ more) → IsFit part (length before)
fits_in before more part fits = (
  fitting before more part fits.each,
  (let place : length before < 16 = omega (arith, length-append before (part ∷ more), fits.few) in place),
)

-- one segment more
pub reached : (left first rest text : List ℕ) (count : ℕ) → IsReached left count text → IsCut left first rest
    → IsFit first count → IsReached rest (count + 1) text
reached left first rest text count r cut fit = record {
  before = r.before ++ first ∷ [];
  all = one_on r.before (parts text) left first rest r.all cut;
  many = length-append r.before (first ∷ []) ∙ ap (λ n. n + 1) r.many;
  fits = longer r.before first r.fits (subst (IsFit first) (sym r.many) fit);
}

-- .. which fits, where the whole text makes a path
pub fits_then : (left first rest text : List ℕ) (count : ℕ) → IsReached left count text → IsCut left first rest
    → Makes (parts text) → IsFit first count
fits_then left first rest text count r cut makes =
    let whole : r.before ++ first ∷ parts rest ≡ parts text =
    ap (λ ps. r.before ++ ps) (sym (first_part left first rest cut)) ∙ r.all in
    subst (IsFit first) r.many
    (fits_in r.before (parts rest) first (subst AreParts (sym whole) (by_part (parts text) makes)))

-- the last one
pub fits_last : (left text : List ℕ) (count : ℕ) → IsReached left count text → HasNoSlash left
    → IsFit left count ↔ Makes (parts text)
fits_last left text count r none =
    let whole : r.before ++ left ∷ [] ≡ parts text = the_last r.before (parts text) left r.all none in (
      λ fit. subst Makes whole
          (together (r.before ++ left ∷ []) (longer r.before left r.fits (subst (IsFit left) (sym r.many) fit))),
      λ makes. subst (IsFit left) r.many
          (fits_in r.before [] left (subst AreParts (sym whole) (by_part (parts text) makes))),
    )
