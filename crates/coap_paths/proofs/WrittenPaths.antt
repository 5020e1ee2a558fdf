-- The text of a path is written segment after segment.
use Rattle.std.proofs.Common.{◌≡◌, ◌<◌, ◌+◌, ◌∙◌, ap, sym, subst, ℕ, List, [], ◌∷◌, ◌++◌, length, take}
use Rattle.std.proofs.Common.{get_or, arith, Vec}
use Rattle.std.proofs.lemmas.Grind.{flat_map-append}
use Rattle.std.proofs.lemmas.List.{append-nil, get_or-map, length-map, take_more}
use Rattle.std.proofs.lemmas.List.Folds.{length-flat_map-take}
use Rattle.coap_types.specs.Path.{segments_of}
use Rattle.coap_paths.specs.Escapes.{escaped}
use Rattle.coap_paths.specs.PathTexts.{IsText, text_of}

-- the text of one segment more
text_more : (path : List (List ℕ)) (i : ℕ) (segment : List ℕ) → i < length path → get_or path i [] ≡ segment
    → text_of (take (i + 1) path) ≡ text_of (take i path) ++ 47 ∷ escaped segment
text_more path i segment lt is =
    ap text_of (take_more path i [] lt ∙ ap (λ s. take i path ++ s ∷ []) is)
    ∙ flat_map-append (λ s. 47 ∷ escaped s) (take i path) (segment ∷ [])
    ∙ ap (λ l. text_of (take i path) ++ l) (append-nil (47 ∷ escaped segment))

-- .. which is written after those before it
pub one_more : (path : List (List ℕ)) (i : ℕ) (segment room new : List ℕ) (len end : ℕ) → i < length path
    → get_or path i [] ≡ segment → take len room ≡ text_of (take i path)
    → end ≡ length (take len room ++ 47 ∷ escaped segment) → take end new ≡ take len room ++ 47 ∷ escaped segment
    → IsText (take (i + 1) path) new end
one_more path i segment room new len end lt is so far put =
    let now : take len room ++ 47 ∷ escaped segment ≡ text_of (take (i + 1) path) =
    ap (λ l. l ++ 47 ∷ escaped segment) so ∙ sym (text_more path i segment lt is) in (far ∙ ap length now, put ∙ now)

-- .. and where that does not fit, the whole does not
pub too_long : (path : List (List ℕ)) (i : ℕ) (segment : List ℕ) (room len : ℕ) → i < length path
    → get_or path i [] ≡ segment → len ≡ length (text_of (take i path)) → room < len + (1 + length (escaped segment))
    → room < length (text_of path)
too_long path i segment room len lt is far short =
    omega (arith, length-flat_map-take (λ s. 47 ∷ escaped s) path i [] lt, ap (λ s. length (escaped s)) is)

-- a segment of a path, where it lies
pub segment_at : {Z : Type 0} (items : List (Vec ℕ Z)) (path : List (List ℕ)) (i : ℕ) (item : Vec ℕ Z) (lent : List ℕ)
    → segments_of items ≡ path → i < length items → get_or items i item ≡ item → lent ≡ item.items
    → (i < length path) × (get_or path i [] ≡ lent)
segment_at items path i item lent are lt is same = (
  subst (λ p. i < length p) are (omega (arith, length-map items (λ (s : Vec ℕ _). s.items))),
  ap (λ p. get_or p i []) (sym are) ∙ get_or-map (λ (s : Vec ℕ _). s.items) items i item [] lt
      ∙ ap (λ (s : Vec ℕ _). s.items) is ∙ sym same,
)
