-- Of whole frames, one is read after the other until none is left.
use Rattle.std.proofs.Common.{◌≡◌, ◌∙◌, ◌+◌, ◌<◌, ◌^◌, ◌++◌, ◌∷◌, [], ℕ, List, ap, arith, length, subst, sym}
use Rattle.std.proofs.lemmas.List.{length-append}
use Rattle.coap_journal.specs.Frames.{BeginsFrame, around, frame, frames}
use Rattle.coap_journal.specs.Input.{AreShort}
use Rattle.coap_journal.specs.Whole.{AreFrames}
use Rattle.coap_journal.proofs.CutAnywhere.{length-frame}
use Rattle.coap_journal.proofs.OneReading.{one_frame}

behind_first : (at : ℕ) (rest body behind : List ℕ) (bodies : List (List ℕ)) → length body < 2 ^ 32
    → rest ≡ frame at body ++ behind → AreShort bodies → rest ≡ frames at bodies
    → AreFrames (at + (around + length body)) behind
behind_first at rest body behind [] short e are is =
    absurd (omega (
      arith,
      ap (length {A = ℕ}) (sym e ∙ is),
      length-append (frame at body) behind,
      length-frame at body,
    ))
behind_first at rest body behind (x ∷ bodies) short e are is =
    let same = one_frame at body x behind (frames (at + (around + length x)) bodies) short are.0 (sym e ∙ is) in
    (bodies, are.1, same.1 ∙ ap (λ (xs : List ℕ). frames (at + (around + length xs)) bodies) (sym same.0))

pub frames_behind : (at next : ℕ) (rest body behind : List ℕ) → length body < 2 ^ 32
    → rest ≡ frame at body ++ behind → next ≡ at + (around + length body) → AreFrames at rest → AreFrames next behind
frames_behind at next rest body behind short e is all =
    subst (λ (n : ℕ). AreFrames n behind) (sym is) (behind_first at rest body behind all.0 short e all.1 all.2)

none_first : (at : ℕ) (rest : List ℕ) (bodies : List (List ℕ)) → (BeginsFrame at rest → ⊥) → AreShort bodies
    → rest ≡ frames at bodies → rest ≡ []
none_first at rest [] none are is = is
none_first at rest (x ∷ bodies) none are is =
    absurd (none (x, frames (at + (around + length x)) bodies, are.0, is))

pub none_left : (at : ℕ) (rest : List ℕ) → (BeginsFrame at rest → ⊥) → AreFrames at rest → rest ≡ []
none_left at rest none all = none_first at rest all.0 none all.1 all.2
