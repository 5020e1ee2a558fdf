-- What the first frames of a journal say.
use Rattle.std.proofs.Common.{◌≡◌, ◌∙◌, ◌<◌, ◌-◌, ◌^◌, ◌++◌, ℕ, List, Option, Some, None, IfNone, IfSome, ap}
use Rattle.std.proofs.Common.{arith, inl, inr, length, refl, subst, sym}
use Rattle.std.proofs.lemmas.List.{length-append}
use Rattle.std.specs.Borrow.{Bor}
use Rattle.coap_journal.specs.Frames.{BeginsFrame, frame}
use Rattle.coap_journal.specs.Records.{Begun, IsUnread, record_bytes}
use Rattle.coap_journal.specs.declared.beginning.BeginError.{BeginError}
use Rattle.coap_journal.specs.declared.beginning.BeginError.TheVariants.{Unreadable}
use Rattle.coap_journal.specs.declared.beginning.Beginning.{Beginning}
use Rattle.coap_journal.specs.declared.beginning.Life.{Life}
use Rattle.coap_journal.proofs.Facts.{length-frame}
use Rattle.coap_journal_file.specs.Judging.{IsBegun, IsSetup, IsTurn, IsUnbegun}

-- one frame at most begins with some bytes
abbrev pub OneFrame : Type 0
OneFrame = (place : ℕ) (a b r s : List ℕ) → length a < 2 ^ 32 → length b < 2 ^ 32
    → frame place a ++ r ≡ frame place b ++ s → (a ≡ b) × (r ≡ s)

pub setup_is : OneFrame → (place : ℕ) (bytes body behind : List ℕ) (r : Option (Bor (List ℕ)))
    → bytes ≡ frame place body ++ behind → length body < 2 ^ 32
    → IfSome r (λ inputs. IsTurn body inputs.now) → IfNone r ((inputs : List ℕ) → IsTurn body inputs → ⊥)
    → IsSetup place bytes r
setup_is one place bytes body behind (Some inputs) is short some none = (body, behind, is, some)
setup_is one place bytes body behind None is short some none = λ other rest inputs len e turn.
    none inputs (subst (λ (b : List ℕ). IsTurn b inputs)
    (sym (one place body other behind rest short len (sym is ∙ e)).0) turn)

pub no_setup : (place : ℕ) (bytes : List ℕ) → (BeginsFrame place bytes → ⊥) → IsSetup place bytes None
no_setup place bytes none = λ body rest inputs len e turn. none (body, rest, len, e)

pub no_beginning : (bytes : List ℕ) → (BeginsFrame 0 bytes → ⊥) → IsUnbegun bytes Unreadable
no_beginning bytes none = inl (none, refl)

pub other_body : (bytes body behind : List ℕ) (why : BeginError) → bytes ≡ frame 0 body ++ behind
    → length body < 2 ^ 32 → IsUnread body why → IsUnbegun bytes why
other_body bytes body behind why is short err = inr (body, behind, short, is, err)

pub begun_is : (bytes body rest : List ℕ) (b : Beginning) (l : Life) (place : ℕ) (setup : Option (Bor (List ℕ)))
    → bytes ≡ frame 0 body ++ rest → body ≡ record_bytes (Begun b l) → place ≡ length bytes - length rest
    → IsSetup place rest setup → IsBegun bytes b setup
begun_is bytes body rest b l place setup is same at has = (
  l,
  rest,
  is ∙ ap (λ (xs : List ℕ). frame 0 xs ++ rest) same,
  subst (λ (n : ℕ). IsSetup n rest setup) (omega (
    arith,
    at,
    ap (length {A = ℕ}) is,
    length-append (frame 0 body) rest,
    length-frame 0 body,
    ap (length {A = ℕ}) same,
  )) has,
)
