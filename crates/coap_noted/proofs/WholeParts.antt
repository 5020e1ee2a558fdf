-- A file in two parts: the frames that are whole, and the rest.
use Rattle.std.proofs.Common.{◌≡◌, ◌<◌, ◌+◌, ◌^◌, ◌∙◌, ℕ, List, [], ◌∷◌, ◌++◌, length, drop, take, sym, ap, subst}
use Rattle.std.proofs.Common.{append_assoc, arith}
use Rattle.std.proofs.Math.Seq.{drop-append_seam, take-append_seam}
use Rattle.std.proofs.lemmas.List.{length-append, take-append-drop}
use Rattle.coap_journal.specs.Frames.{BeginsFrame, frame, frames}
use Rattle.coap_journal.specs.Input.{AreShort}
use Rattle.coap_journal.specs.Records.{Begun, record_bytes}
use Rattle.coap_journal.specs.Whole.{IsWholeTo}
use Rattle.coap_journal.specs.Records.{FirstIsUnread, IsUnread}
use Rattle.coap_journal.specs.declared.beginning.BeginError.{BeginError}
use Rattle.coap_journal.specs.declared.beginning.Beginning.{Beginning}
use Rattle.coap_journal.specs.declared.beginning.Life.{Life}

-- what is taken, and what is left
pub in_two : (file front back : List ℕ) (end : ℕ) → front ≡ take end file → back ≡ drop end file → file ≡ front ++ back
in_two file front back end is rest =
    sym (take-append-drop end file) ∙ ap (λ (xs : List ℕ). xs ++ drop end file) (sym is)
    ∙ ap (λ (ys : List ℕ). front ++ ys) (sym rest)

-- where the whole frames end, the rest begins
pub ends_within : (file : List ℕ) (count end : ℕ) (tail : List ℕ) → IsWholeTo 0 file count end tail
    → end + length tail ≡ length file
ends_within file count end tail w =
    omega (arith, w.ends, ap (length {A = ℕ}) w.parts, length-append (frames 0 w.bodies) tail)

ends_is : (file : List ℕ) (count end : ℕ) (tail : List ℕ) → (w : IsWholeTo 0 file count end tail)
    → end ≡ length (frames 0 w.bodies)
ends_is file count end tail w = omega (arith, w.ends)

-- .. and is all that stands behind so many bytes
pub behind_is : (file : List ℕ) (count end : ℕ) (tail front back : List ℕ) → IsWholeTo 0 file count end tail
    → file ≡ front ++ back → length front ≡ end → back ≡ tail
behind_is file count end tail front back w parts long =
    sym (drop-append_seam front back) ∙ ap (λ (xs : List ℕ). drop (length front) xs) (sym parts)
    ∙ ap (λ (n : ℕ). drop n file) (long ∙ ends_is file count end tail w) ∙ ap (λ (xs : List ℕ). drop (length (frames 0 w.bodies)) xs) w.parts
    ∙ drop-append_seam (frames 0 w.bodies) tail

-- .. and what stands before it is the whole frames
pub front_is : (file : List ℕ) (count end : ℕ) (tail front back : List ℕ) → (w : IsWholeTo 0 file count end tail)
    → file ≡ front ++ back → length front ≡ end → front ≡ frames 0 w.bodies
front_is file count end tail front back w parts long =
    sym (take-append_seam front back) ∙ ap (λ (xs : List ℕ). take (length front) xs) (sym parts)
    ∙ ap (λ (n : ℕ). take n file) (long ∙ ends_is file count end tail w)
    ∙ ap (λ (xs : List ℕ). take (length (frames 0 w.bodies)) xs) w.parts ∙ take-append_seam (frames 0 w.bodies) tail

no_frame : (bodies : List (List ℕ)) (file tail : List ℕ) (end : ℕ) → length bodies ≡ 0 → file ≡ frames 0 bodies ++ tail
    → end ≡ length (frames 0 bodies) → (BeginsFrame end tail → ⊥) → BeginsFrame 0 file → ⊥
no_frame [] file tail end none parts ends not begins =
    not (subst (λ (n : ℕ). BeginsFrame n tail) (sym ends) (subst (BeginsFrame 0) parts begins))
no_frame (body ∷ bodies) file tail end none parts ends not begins = omega (arith, none)

-- .. and with one of some, one does
pub some_begins : (bodies : List (List ℕ)) (count : ℕ) → length bodies ≡ count → (count ≡ 0 → ⊥) → AreShort bodies
    → (front : List ℕ) → front ≡ frames 0 bodies → BeginsFrame 0 front
some_begins [] count counted some short front is = absurd (some (sym counted))
some_begins (body ∷ bodies) count counted some short front is =
    (body, frames (0 + (20 + length body)) bodies, short.0, is)

-- with a file of no whole frame no frame begins
pub begins_none : (file : List ℕ) (count end : ℕ) (tail : List ℕ) → IsWholeTo 0 file count end tail → count ≡ 0
    → BeginsFrame 0 file → ⊥
begins_none file count end tail w none =
    no_frame w.bodies file tail end (w.counted ∙ none) w.parts (ends_is file count end tail w) w.none

-- a file of which the first frame is a beginning, in its three parts
pub opened_parts : (file front back body further : List ℕ) (b : Beginning) (l : Life) → file ≡ front ++ back
    → front ≡ frame 0 body ++ further → body ≡ record_bytes (Begun b l)
    → file ≡ (frame 0 (record_bytes (Begun b l)) ++ further) ++ back
opened_parts file front back body further b l parts is same =
    parts ∙ ap (λ (xs : List ℕ). xs ++ back) (is ∙ ap (λ (bytes : List ℕ). frame 0 bytes ++ further) same)

-- what the first frame holds isn't read
pub first_unread : (file front back body further : List ℕ) (why : BeginError) → file ≡ front ++ back
    → front ≡ frame 0 body ++ further → length body < 2 ^ 32 → IsUnread body why → FirstIsUnread file why
first_unread file front back body further why parts is short err = (
  body,
  further ++ back,
  short,
  parts ∙ ap (λ (xs : List ℕ). xs ++ back) is ∙ append_assoc (frame 0 body) further back,
  err,
)
