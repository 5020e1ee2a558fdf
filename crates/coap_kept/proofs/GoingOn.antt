-- The run of a journal whose end commits each input.
use Rattle.std.proofs.Common.{◌≡◌, ℕ, Bool, List, [], ◌∷◌, ◌++◌, Result, ap, append_assoc, subst, sym}
use Rattle.std.proofs.Common.{◌+◌, ◌-◌, Err, IfOk, IfSome, None, Ok, Option, Some, arith, length}
use Rattle.std.proofs.lemmas.List.{length-append}
use Rattle.coap_layer.specs.Trace.{Packet}
use Rattle.coap_journal.specs.Frames.{around, frame}
use Rattle.coap_journal.specs.Input.{Input}
use Rattle.coap_journal.proofs.Facts.{length-frame}
use Rattle.coap_journal.specs.declared.waking.Waking.{Waking}
use Rattle.coap_journal.specs.declared.waking.Waking.TheVariants.{AfterSilence, At}
use Rattle.coap_journaled.specs.Journal.{IsNoted, IsTaken, Journal}
use Rattle.coap_journaled.specs.Runs.{Act, Does, Gives, Runs, Takes}
use Rattle.coap_kept.specs.Keeping.{GoesOn, IsCommitted}

module _ {S F : Type 0} (appends : F → List ℕ → Bool → F → Type 0) (syncs : F → Bool → F → Type 0)
    (takes : S → Input → S → Type 0) (gives : S → Packet → S → Type 0) (start : Journal S F) where
  pub noted_on : (old between new : Journal S F) (t : List Act) (input : Input)
      → Runs takes gives appends syncs start t old → IsNoted old input between → takes old.end input between.end
      → IsCommitted appends syncs between new → GoesOn takes gives appends syncs start t new
  noted_on old between new t input runs is one done = (
    done.1 ++ Takes input ∷ [],
    subst (λ (u : List Act). Runs takes gives appends syncs start u new)
        (sym (append_assoc done.1 (Takes input ∷ []) t))
        (Runs.further (Takes input ∷ t) between done.1 new
        (Runs.further t old (Takes input ∷ []) between runs (Does.noted input is one))
        (Does.committed done.0 done.1 done.2)),
  )

  pub rested_on : (old between new : Journal S F) (t : List Act) → Runs takes gives appends syncs start t old
      → between ≡ old → IsCommitted appends syncs between new → GoesOn takes gives appends syncs start t new
  rested_on old between new t runs is done = (
    done.1,
    Runs.further t between done.1 new (subst (Runs takes gives appends syncs start t) (sym is) runs)
        (Does.committed done.0 done.1 done.2),
  )

  pub given_on : (old new : Journal S F) (t : List Act) (p : Packet) → Runs takes gives appends syncs start t old
      → IsTaken old new → gives old.end p new.end → GoesOn takes gives appends syncs start t new
  given_on old new t p runs is one = (Gives p ∷ [], Runs.further t old (Gives p ∷ []) new runs (Does.given p is one))

-- what holds of a value, if there is one, and what follows from that
pub if_some : {X : Type 0} {P Q : X → Type 0} (r : Option X) → ((x : X) → P x → Q x) → IfSome r P → IfSome r Q
if_some None on h = tt
if_some (Some x) on h = on x h

-- the moment at which a server goes on
abbrev pub moment_of : Waking → ℕ
moment_of (At moment) = moment.0
moment_of (AfterSilence moment) = moment.0

-- .. of an answer
pub if_ok : {X E : Type 0} {P Q : X → Type 0} (r : Result X E) → ((x : X) → P x → Q x) → IfOk r P → IfOk r Q
if_ok (Ok x) on h = on x h
if_ok (Err e) on h = tt

-- where what follows the first frame stands
pub behind_first : (bytes body rest : List ℕ) → bytes ≡ frame 0 body ++ rest
    → length bytes - length rest ≡ around + length body
behind_first bytes body rest is =
    omega (arith, ap (length {A = ℕ}) is, length-append (frame 0 body) rest, length-frame 0 body)
