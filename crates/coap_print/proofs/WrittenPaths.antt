-- What is written of a path, segment by segment.
use Rattle.std.proofs.Common.{◌≡◌, ◌++◌, ◌∷◌, [], ◌∙◌, ℕ, List, Bool, true, false, codes, sym, ap, refl, not}
use Rattle.std.proofs.Common.{append-nil}
use Rattle.std.proofs.Common.{All, arith, ◌==◌, suc, map}
use Rattle.std.specs.List.{filter, flat_map, join_by}
use Rattle.std.proofs.lemmas.Grind.{flat_map-append}
use Rattle.std.proofs.lemmas.List.{append_assoc, map-append}
use Rattle.std.proofs.lemmas.List.Elements.{All-append, All-cons, All-nil, filter-append}
use Rattle.coap_types.specs.Bytes.{AreBytes}
use Rattle.coap_types.specs.CoapOption.{CoapOption}
use Rattle.coap_types.specs.RequestPath.{path_of}
use Rattle.coap_types.specs.declared.option_number.TheConstants.{URI_PATH}
use Rattle.coap_print.specs.Printable.{ArePrintable, IsPrintable}
use Rattle.coap_print.specs.Segments.{path_text, segment_text, slash_if}
use Rattle.coap_print.proofs.WrittenSegments.{printable}

abbrev pub is_empty : {X : Type 0} → List X → Bool
is_empty [] = true
is_empty (x ∷ xs) = false

-- .. but for the slash of a path of no segment
abbrev pub joined : List (List ℕ) → List ℕ
joined path = join_by segment_text (codes "/") path

-- a segment behind a slash
abbrev further : List ℕ → List ℕ
further segment = codes "/" ++ segment_text segment

one_more : (path : List (List ℕ)) (segment : List ℕ)
    → joined path ++ (slash_if (not (is_empty path)) ++ segment_text segment) ≡ joined (path ++ segment ∷ [])
one_more [] segment = sym (append-nil (segment_text segment))
one_more (s ∷ ss) segment =
    append_assoc (segment_text s) (flat_map further ss) (further segment)
    ∙ ap (λ t. segment_text s ++ t)
    (ap (λ t. flat_map further ss ++ t) (sym (append-nil (further segment)))
    ∙ sym (flat_map-append further ss (segment ∷ [])))

-- the path of some options, and of one more
path_more : (done : List CoapOption) (o : CoapOption) → path_of (done ++ o ∷ []) ≡ path_of done ++ path_of (o ∷ [])
path_more done o =
    ap (λ os. map (λ (x : CoapOption). x.value) os)
    (filter-append (λ (x : CoapOption). x.number == URI_PATH) done (o ∷ []))
    ∙ map-append (λ (x : CoapOption). x.value) (filter (λ (x : CoapOption). x.number == URI_PATH) done)
    (filter (λ (x : CoapOption). x.number == URI_PATH) (o ∷ []))

with_value : (o : CoapOption) → (o.number == URI_PATH) ≡ true → path_of (o ∷ []) ≡ o.value ∷ []
with_value o is = rw is refl

with_none : (o : CoapOption) → (o.number == URI_PATH) ≡ false → path_of (o ∷ []) ≡ []
with_none o is = rw is refl

not_empty : {X : Type 0} (xs : List X) (x : X) → false ≡ is_empty (xs ++ x ∷ [])
not_empty [] x = refl
not_empty (y ∷ ys) x = refl

-- an option of a path has one more segment
pub more_segments : (done : List CoapOption) (o : CoapOption) → (o.number == URI_PATH) ≡ true
    → (false ≡ is_empty (path_of (done ++ o ∷ [])))
    × (joined (path_of done) ++ (slash_if (not (is_empty (path_of done))) ++ segment_text o.value)
    ≡ joined (path_of (done ++ o ∷ [])))
more_segments done o is =
    let more : path_of (done ++ o ∷ []) ≡ path_of done ++ o.value ∷ [] =
    path_more done o ∙ ap (λ p. path_of done ++ p) (with_value o is) in
    (not_empty (path_of done) o.value ∙ ap is_empty (sym more), one_more (path_of done) o.value ∙ ap joined (sym more))

-- .. and another has none
pub same_segments : (done : List CoapOption) (o : CoapOption) → (o.number == URI_PATH) ≡ false
    → path_of done ≡ path_of (done ++ o ∷ [])
same_segments done o is =
    sym (path_more done o ∙ ap (λ p. path_of done ++ p) (with_none o is) ∙ append-nil (path_of done))

slash_printable : ArePrintable (codes "/")
slash_printable = All-cons IsPrintable 47 [] (omega arith, omega arith) (All-nil IsPrintable)

further_printable : (path : List (List ℕ)) → All AreBytes path → ArePrintable (flat_map further path)
further_printable [] are = All-nil IsPrintable
further_printable (s ∷ ss) are =
    All-append IsPrintable (further s) (flat_map further ss)
    (All-append IsPrintable (codes "/") (segment_text s) slash_printable (printable s (are 0 [] (omega arith))))
    (further_printable ss (λ k d lt. are (suc k) d (omega arith)))

pub path_printable : (path : List (List ℕ)) → All AreBytes path → ArePrintable (path_text path)
path_printable [] are = slash_printable
path_printable (s ∷ ss) are =
    All-append IsPrintable (segment_text s) (flat_map further ss) (printable s (are 0 [] (omega arith)))
    (further_printable ss (λ k d lt. are (suc k) d (omega arith)))
