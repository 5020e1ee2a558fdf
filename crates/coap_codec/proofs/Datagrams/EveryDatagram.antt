-- Every datagram spells one message or has one fault, and decoding finds it.
use Rattle.std.proofs.Common.{◌≡◌, ℕ, List, None, Result, Ok, Err, sym, ap, ◌∙◌, inl, inr}
use Rattle.coap_codec.specs.declared.fault.Reason.{Reason}
use Rattle.coap_types.specs.Bytes.{AreBytes}
use Rattle.coap_codec.specs.Message.{Message, Spells}
use Rattle.coap_codec.specs.Faulty.{Faulty}
use Rattle.coap_codec.specs.Reading.{frame_fault, ReadsBody}
use Rattle.coap_codec.specs.Decoded.{decoded, Reads}
use Rattle.coap_codec.specs.declared.fault.Fault.{Fault}
use Rattle.std.specs.Prelude.{IfOk, IfErr, OnErr}
use Rattle.coap_codec.proofs.OneOption.IsRead.{cases_result}
use Rattle.coap_codec.specs.Laws.{EachIsRead, NotBoth, OneMessage, OneFault, MessageIsDecoded, FaultIsDecoded}
use Rattle.coap_codec.proofs.Datagrams.ReadAsSpelled.{message_reads, message_faults, message_body}
use Rattle.coap_codec.proofs.Datagrams.ReadAgain.{spelled_again, faulty_again}

pub reads_found : (bytes : List ℕ) (r : Result Message Fault) → AreBytes bytes → Reads bytes r
    → IfOk r (λ m. Spells bytes m)
reads_found bytes (Ok m) fits h = message_reads bytes fits m h
reads_found bytes (Err f) fits h = tt

pub reads_only : (bytes : List ℕ) (r : Result Message Fault) → AreBytes bytes → Reads bytes r → (m : Message)
    → Spells bytes m → r ≡ Ok m
reads_only bytes (Ok n) fits h m s = let again = spelled_again bytes m s in cc
reads_only bytes (Err f) fits h m s = absurd (let again = spelled_again bytes m s in let h' = h.0 in cc)

pub reads_none : (bytes : List ℕ) (r : Result Message Fault) → AreBytes bytes → Reads bytes r
    → OnErr r ((m : Message) → Spells bytes m → ⊥)
reads_none bytes (Ok n) fits h = tt
reads_none bytes (Err f) fits h = λ m s. let again = spelled_again bytes m s in let h' = h.0 in cc

pub reads_fault : (bytes : List ℕ) (r : Result Message Fault) → AreBytes bytes → Reads bytes r
    → IfErr r (λ f. Faulty bytes f.reason f.at)
reads_fault bytes (Ok m) fits h = tt
reads_fault bytes (Err f) fits h = message_faults bytes fits f.reason f.at h.0

pub reads_body : (bytes : List ℕ) (r : Result Message Fault) → frame_fault bytes ≡ None → ReadsBody bytes r
    → Reads bytes r
reads_body bytes (Ok m) e h = message_body bytes e ∙ h
reads_body bytes (Err f) e h = (message_body bytes e ∙ h.0, h.1)

-- ---- the laws

pub each_is_read : EachIsRead
each_is_read bytes fits =
    elim (cases_result (decoded bytes)) [
      | inl h ↦ inl (h.0, message_reads bytes fits h.0 h.1)
      | inr h ↦ inr (h.0.0, h.0.1, message_faults bytes fits h.0.0 h.0.1 h.1)
    ]

pub not_both : NotBoth
not_both bytes m reason at fits s f =
    let a = spelled_again bytes m s in
    let b = faulty_again bytes reason at fits f in
    cc

pub one_message : OneMessage
one_message bytes m n s t =
    let a = spelled_again bytes m s in
    let b = spelled_again bytes n t in
    cc

pub one_fault : OneFault
one_fault bytes r s a b fits f g =
    let both : Path (Result Message (Reason × ℕ)) (Err (r, a)) (Err (s, b)) = sym (faulty_again bytes r a fits f)
    ∙ faulty_again bytes s b fits g in
    let is : Path (Reason × ℕ) (r, a) (s, b) = cc in
    (ap (λ (x : Reason × ℕ). x.0) is, ap (λ (x : Reason × ℕ). x.1) is)

pub message_is_decoded : MessageIsDecoded
message_is_decoded bytes m fits = (message_reads bytes fits m, spelled_again bytes m)

pub fault_is_decoded : FaultIsDecoded
fault_is_decoded bytes reason at fits = (message_faults bytes fits reason at, faulty_again bytes reason at fits)
