-- What an end does that commits each input.
use Rattle.std.specs.Prelude.{◌≡◌, ◌++◌, ℕ, Bool, List, Option, Some, Result, Ok, Err}
use Rattle.coap_layer.specs.Trace.{Packet}
use Rattle.coap_journal.specs.Input.{Input}
use Rattle.coap_journaled.specs.Journal.{Journal}
use Rattle.coap_journaled.specs.Runs.{Act, Commits, Runs}
use Rattle.coap_journaled.specs.declared.journaled.CommitError.{CommitError}

-- what was noted is committed, or that fails
abbrev pub IsCommitted : {S F : Type 0} → (F → List ℕ → Bool → F → Type 0) → (F → Bool → F → Type 0) → Journal S F
    → Journal S F → Type 0
IsCommitted appends syncs old new =
    (result : Result (Unit {0}) CommitError) × (acts : List Act) × Commits appends syncs old result acts new

-- the failure that is known after a commit that was answered so
abbrev pub failure_after : Result (Unit {0}) CommitError → Option CommitError → Option CommitError
failure_after (Ok done) failure = failure
failure_after (Err why) failure = Some why

-- .. and that it fails is known then
abbrev pub CommitsTelling : {S F : Type 0} → (F → List ℕ → Bool → F → Type 0) → (F → Bool → F → Type 0) → Journal S F
    → Option CommitError → Journal S F → Option CommitError → Type 0
CommitsTelling appends syncs old before new after =
    (result : Result (Unit {0}) CommitError) × (acts : List Act) × Commits appends syncs old result acts new
    × (after ≡ failure_after result before)

-- the run of the journal goes on to this
abbrev pub GoesOn : {S F : Type 0} → (S → Input → S → Type 0) → (S → Packet → S → Type 0)
    → (F → List ℕ → Bool → F → Type 0) → (F → Bool → F → Type 0) → (start : Journal S F) → List Act → Journal S F
    → Type 0
GoesOn takes gives appends syncs start t new =
    (acts : List Act) × Runs takes gives appends syncs start (acts ++ t) new
