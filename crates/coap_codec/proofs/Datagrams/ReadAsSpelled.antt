-- Bytes that are read as a message spell it, and bytes at which reading meets a fault are faulty so.
use Rattle.std.proofs.Common.{◌≡◌, ℕ, ◌+◌, ◌-◌, ◌⊎◌, List, length, Option, Some, None, Result, Ok, Err, refl, sym, ap}
use Rattle.std.proofs.Common.{subst, ◌∙◌, inl, inr}
use Rattle.coap_codec.specs.declared.fault.Reason.{Reason}
use Rattle.coap_types.specs.Bytes.{AreBytes}
use Rattle.coap_codec.specs.Message.{Message, Spells}
use Rattle.coap_codec.specs.Header.{token_length}
use Rattle.coap_codec.specs.Faulty.{place, IsFramed, Faulty}
use Rattle.coap_codec.specs.Reading.{walk, payload_at, frame_fault, behind_token, message_of, body_at}
use Rattle.coap_codec.specs.Decoded.{decoded}
use Rattle.coap_codec.proofs.OneOption.IsRead.{cases_result}
use Rattle.coap_codec.proofs.OneOption.LongestRun.{walked}
use Rattle.coap_codec.proofs.OneOption.WhereNoneBegins.{payload_reads, payload_bad}
use Rattle.coap_codec.proofs.Datagrams.HeaderAndToken.{frame_none, frame_some}
use Rattle.coap_types.proofs.Facts.Bytes.{AreBytes-drop}
use Rattle.coap_codec.proofs.Datagrams.SoundBytes.{body_ok, body_err, sound_spells, bad_rest_faulty, walk_leaves}

cases_option : {A : Type 0} (o : Option A) → ((x : A) × (o ≡ Some x)) ⊎ (o ≡ None)
cases_option (Some x) = inl (x, refl)
cases_option None = inr refl

pub message_fault : (bytes : List ℕ) (x : Reason × ℕ) → frame_fault bytes ≡ Some x → decoded bytes ≡ Err x
unfolding decoded
message_fault bytes x e = rw (e, decoded) refl

pub message_body : (bytes : List ℕ) → frame_fault bytes ≡ None → decoded bytes ≡ body_at bytes
unfolding decoded
message_body bytes e = rw (e, decoded) refl

-- what reading gives at sound bytes
module _ (bytes : List ℕ) (fits : AreBytes bytes) where
  pub body_reads : (m : Message) → IsFramed bytes → body_at bytes ≡ Ok m → Spells bytes m
  body_reads m f e =
      let w = walk 0 (behind_token bytes) in
      elim (cases_result (payload_at w.reason w.rest)) [
        | inl h ↦
            let same : Path (Result Message (Reason × ℕ)) (Ok (message_of bytes h.0)) (Ok m) =
            sym (body_ok bytes h.0 h.1) ∙ e in
            let is : message_of bytes h.0 ≡ m = cc in
            subst (Spells bytes) is (sound_spells bytes h.0 fits f (payload_reads w.reason w.rest h.0 h.1))
        | inr h ↦ let e' = body_err bytes h.0 h.1 in absurd cc
      ]

  body_faults : (reason : Reason) (at : ℕ) → IsFramed bytes → body_at bytes ≡ Err (reason, at) → Faulty bytes reason at
  body_faults reason at f e =
      let w = walk 0 (behind_token bytes) in
      let fits' = AreBytes-drop (4 + token_length bytes) bytes fits in
      elim (cases_result (payload_at w.reason w.rest)) [
        | inl h ↦ let e' = body_ok bytes h.0 h.1 in absurd cc
        | inr h ↦
            let p = place h.0 (length bytes - length w.rest) (length bytes) in
            let both : Path (Result Message (Reason × ℕ)) (Err (h.0, p)) (Err (reason, at)) =
            sym (body_err bytes h.0 h.1) ∙ e in
            let is : Path (Reason × ℕ) (h.0, p) (reason, at) = cc in
            let bad = payload_bad w.number w.reason w.rest h.0 (walked 0 (behind_token bytes) fits').fits
            (walked 0 (behind_token bytes) fits').ends h.1 in
            subst (λ (x : Reason × ℕ). Faulty bytes x.0 x.1) is
            (bad_rest_faulty bytes h.0 w.number w.rest f (walk_leaves (behind_token bytes) fits') bad)
      ]

  -- a message that is read is spelled so
  pub message_reads : (m : Message) → decoded bytes ≡ Ok m → Spells bytes m
  message_reads m e =
      elim (cases_option (frame_fault bytes)) [
        | inl h ↦ absurd (let e' : Path (Result Message (Reason × ℕ)) (Err h.0) (Ok m) =
            sym (message_fault bytes h.0 h.1) ∙ e in cc)
        | inr h ↦ body_reads m (frame_none bytes h) (sym (message_body bytes h) ∙ e)
      ]

  -- bytes are faulty as reading finds
  pub message_faults : (reason : Reason) (at : ℕ) → decoded bytes ≡ Err (reason, at) → Faulty bytes reason at
  message_faults reason at e =
      elim (cases_option (frame_fault bytes)) [
        | inl h ↦
            let e' : Path (Result Message (Reason × ℕ)) (Err h.0) (Err (reason, at)) = sym (message_fault bytes h.0 h.1)
            ∙ e in
            let is : h.0 ≡ (reason, at) = cc in
            frame_some bytes reason at (h.1 ∙ ap (λ (x : Reason × ℕ). Some x) is)
        | inr h ↦ body_faults reason at (frame_none bytes h) (sym (message_body bytes h) ∙ e)
      ]
