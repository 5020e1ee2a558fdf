use Rattle.std.proofs.Common.{◌≡◌, ◌∙◌, ◌↔◌, ◌≤◌, ◌<◌, IsTrue, ap, sym, arith, string_bytes, Bool, List, [], ◌∷◌}
use Rattle.std.proofs.Common.{codes, length, map, slice_index_or}
use Rattle.std.proofs.lemmas.Slice.Eq.{bytes_eq-Decides}
use Rattle.clap.specs.Words.{Text}
use Rattle.coap_arguments.specs.Words.{IsVersion}
use Rattle.coap_arguments.proofs.words.is_version.Goals as goal

second : {X : Type 0} (f : X → Text) (words : List X) (b : Bool) (d : X) → 2 ≤ length words → length words < 3
    → (IsTrue b ↔ (f (slice_index_or words 1 d) ≡ codes "--version")) → IsTrue b ↔ IsVersion (map f words)
second f [] b d two few is = absurd (omega (arith, two))
second f (x ∷ []) b d two few is = absurd (omega (arith, two))
second f (x ∷ y ∷ []) b d two few is = (
  λ yes. (f x, ap (λ (t : Text). f x ∷ t ∷ []) (is.0 yes)),
  λ version. is.1 (ap (λ (ts : List Text). slice_index_or ts 1 []) version.1),
)
second f (x ∷ y ∷ z ∷ words) b d two few is = absurd (omega (arith, few))

pub returns-in-len2 : goal.returns-in-len2
returns-in-len2 c =
    let word = c.word-item.result in
    let text : c.as_str.result.now ≡ string_bytes (slice_index_or c.args.words.now 1 word) = c.as_str.ensures.value
    ∙ ap string_bytes c.word-item.is in
    let known = bytes_eq-Decides c.as_str.result.now (codes "--version") in
    second string_bytes c.args.words.now c.eq.result word c.in-len2.len_at_least c.in-len2.len_below (
      λ yes. sym text ∙ known.0 (sym c.eq.ensures ∙ yes),
      λ same. c.eq.ensures ∙ known.1 (text ∙ same),
    )
