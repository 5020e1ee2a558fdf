-- Frames, and one more after them.
use Rattle.std.proofs.Common.{◌≡◌, ℕ, ◌+◌, List, [], ◌∷◌, ◌++◌, length, sym, ap, ◌∙◌, arith, append_assoc}
use Rattle.std.proofs.lemmas.List.{append-nil, length-append}
use Rattle.coap_journal.specs.Frames.{around, frame, frames}
use Rattle.coap_journal.proofs.CutAnywhere.{length-frame}

pub frames_more : (place : ℕ) (all : List (List ℕ)) (body : List ℕ)
    → frames place (all ++ body ∷ []) ≡ frames place all ++ frame (place + length (frames place all)) body
frames_more place [] body =
    append-nil (frame place body) ∙ ap (λ (at : ℕ). frame at body) (here place)
  where
    here : (n : ℕ) → n ≡ n + 0
    here n = omega arith
frames_more place (x ∷ all) body =
    let next : ℕ = place + (around + length x) in
    ap (λ (r : List ℕ). frame place x ++ r) (frames_more next all body)
    ∙ sym (append_assoc (frame place x) (frames next all) (frame (next + length (frames next all)) body))
    ∙ ap (λ (at : ℕ). (frame place x ++ frames next all) ++ frame at body)
    (omega (arith, length-frame place x, length-append (frame place x) (frames next all)))

pub framed_more : (place at : ℕ) (bytes rest behind body : List ℕ) (all : List (List ℕ))
    → bytes ≡ frames place all ++ rest → at + length rest ≡ place + length bytes
    → rest ≡ frame at body ++ behind → bytes ≡ frames place (all ++ body ∷ []) ++ behind
framed_more place at bytes rest behind body all e places is =
    let there : at ≡ place + length (frames place all) =
    omega (arith, places, ap (length {A = ℕ}) e, length-append (frames place all) rest) in
    e ∙ ap (λ (r : List ℕ). frames place all ++ r) is
    ∙ sym (append_assoc (frames place all) (frame at body) behind)
    ∙ ap (λ (r : List ℕ). r ++ behind)
    (ap (λ (n : ℕ). frames place all ++ frame n body) there ∙ sym (frames_more place all body))

pub rest_is_less : (at : ℕ) (body rest behind : List ℕ) → rest ≡ frame at body ++ behind
    → length behind + (around + length body) ≡ length rest
rest_is_less at body rest behind e =
    omega (arith, ap (length {A = ℕ}) e, length-append (frame at body) behind, length-frame at body)
