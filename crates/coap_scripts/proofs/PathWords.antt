-- The path that a word of a script says, segment by segment.
use Rattle.std.proofs.Common.{◌≡◌, ◌≢◌, ◌∙◌, ◌⊎◌, ap, sym, refl, ℕ, false, ◌<◌, List, [], ◌∷◌, ◌++◌, length}
use Rattle.std.proofs.Common.{get_or, arith, inl, inr, eqb, All}
use Rattle.std.proofs.lemmas.Bool.Decides.{nat_tests}
use Rattle.std.proofs.lemmas.List.{append_assoc, length-append}
use Rattle.std.proofs.lemmas.List.Splits.{slice_split_at, slice_split_none}
use Rattle.std.proofs.Math.Seq.{get_or-append_seam}
use Rattle.coap_types.specs.declared.path.PathRefusal.{PathRefusal}
use Rattle.coap_types.specs.declared.path.PathRefusal.TheVariants.{SegmentTooLong, TooManySegments, Memory}
use Rattle.coap_arguments.specs.PathText.{IsNoPath, IsTrueOf, is_slash, parts}
use Rattle.coap_scripts.specs.ScriptRefusals.{of_path}
use Rattle.coap_scripts.specs.ScriptWords.{IsCut, Lacks}
use Rattle.coap_scripts.specs.declared.script.refusal.LineRefusal.TheVariants as line

no_slash : (b : ℕ) → b ≢ 47 → eqb b 47 ≡ false
no_slash b e = grind (arith, nat_tests)

bare : (s : List ℕ) → Lacks 47 s → All (λ x. is_slash x ≡ false) s
bare s h = λ k d lt. no_slash _ (h k d lt)

-- the first part of what is left, and the others
pub cut_parts : (left first rest : List ℕ) → IsCut 47 left first rest → parts left ≡ first ∷ parts rest
cut_parts left first rest cut = ap parts cut.0 ∙ slice_split_at is_slash first 47 rest (bare first cut.1) refl

-- .. is all of it
pub last_part : (left : List ℕ) → Lacks 47 left → parts left ≡ left ∷ []
last_part left lacks = slice_split_none is_slash left (bare left lacks)

-- one segment more
pub one_on : (path whole : List (List ℕ)) (left first rest : List ℕ) → path ++ parts left ≡ whole
    → IsCut 47 left first rest → (path ++ first ∷ []) ++ parts rest ≡ whole
one_on path whole left first rest so cut = append_assoc path (first ∷ []) (parts rest)
    ∙ ap (λ ps. path ++ ps) (sym (cut_parts left first rest cut)) ∙ so

-- the segment that comes next is the part of that number
pub next_part : (path more whole : List (List ℕ)) (s : List ℕ) → path ++ s ∷ more ≡ whole
    → (length path < length whole) × (s ≡ get_or whole (length path) s)
next_part path more whole s so =
    let len = length-append path (s ∷ more) in
    let same = ap length so in (
      omega (arith, len, same),
      sym (get_or-append_seam path s more s) ∙ ap (λ (l : List (List ℕ)). get_or l (length path) s) so,
    )

-- why a path is refused is why its line is
pub line_refused : (e : PathRefusal) (text : List ℕ) → (e ≡ Memory) ⊎ (IsNoPath text × IsTrueOf e text)
    → (of_path e ≡ line.Memory) ⊎ ((of_path e ≡ line.Unreadable) × IsNoPath text)
line_refused Memory text h = inl refl
line_refused SegmentTooLong text (inl is) = absurd (cc is)
line_refused SegmentTooLong text (inr h) = inr (refl, h.0)
line_refused TooManySegments text (inl is) = absurd (cc is)
line_refused TooManySegments text (inr h) = inr (refl, h.0)
