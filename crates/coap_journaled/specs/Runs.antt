-- What an end with a journal does, one call after the other.
use Rattle.std.specs.Prelude.{◌≡◌, ◌≢◌, ◌<◌, ℕ, Bool, true, false, List, [], ◌∷◌, ◌++◌, Result, Ok, Err}
use Rattle.coap_layer.specs.Trace.{Packet}
use Rattle.coap_types.specs.declared.endpoint.Endpoint.{Endpoint}
use Rattle.coap_journal.specs.Input.{Delay, Feed, Forget, Input, Plain, Refuse, Remove, Set, Tick}
use Rattle.coap_journaled.specs.Journal.{IsFull, IsNoted, IsTaken, Journal, ended_with, most}
use Rattle.coap_journaled.specs.Journal.{next_frame, synced_to}
use Rattle.coap_journaled.specs.declared.journaled.CommitError.{CommitError}
use Rattle.coap_journaled.specs.declared.journaled.CommitError.TheVariants.{Memory, NoRoom, NotSynced, NotWritten, Over}

-- An input is handed in; bytes are appended to the file, and whether that succeeded; the file is synced, and whether
-- that succeeded; a datagram is taken, which then goes out.
pub data Act : Type 0 where
  Takes : (input : Input) → Act
  Appends : (bytes : List ℕ) (done : Bool) → Act
  Syncs : (done : Bool) → Act
  Gives : (packet : Packet) → Act

-- What a commit does, the newest act first. (`appends` and `syncs` are what a file does.)
pub data Commits {S F : Type 0} (appends : F → List ℕ → Bool → F → Type 0) (syncs : F → Bool → F → Type 0)
    (old : Journal S F) (result : Result (Unit {0}) CommitError) (acts : List Act) (new : Journal S F) : Type 0 where
  nothing : result ≡ Ok tt → old.over ≡ false → old.inputs ≡ [] → acts ≡ [] → new ≡ old
      → Commits appends syncs old result acts new
  done : (between : F) → result ≡ Ok tt → old.over ≡ false → old.inputs ≢ [] → old.taken < most
      → appends old.file (next_frame old) true between → syncs between true new.file
      → acts ≡ Syncs true ∷ Appends (next_frame old) true ∷ [] → new ≡ synced_to old new.file
      → Commits appends syncs old result acts new
  unsynced : (between : F) → result ≡ Err NotSynced → old.over ≡ false
      → appends old.file (next_frame old) true between → syncs between false new.file
      → acts ≡ Syncs false ∷ Appends (next_frame old) true ∷ [] → new ≡ ended_with old new.file
      → Commits appends syncs old result acts new
  unwritten : result ≡ Err NotWritten → old.over ≡ false → appends old.file (next_frame old) false new.file
      → acts ≡ Appends (next_frame old) false ∷ [] → new ≡ ended_with old new.file
      → Commits appends syncs old result acts new
  full : result ≡ Err NoRoom → old.over ≡ false → old.inputs ≢ [] → IsFull old → acts ≡ []
      → new ≡ ended_with old old.file → Commits appends syncs old result acts new
  refused : result ≡ Err Memory → old.over ≡ false → old.inputs ≢ [] → acts ≡ [] → new ≡ old
      → Commits appends syncs old result acts new
  over : result ≡ Err Over → old.over ≡ true → acts ≡ [] → new ≡ old → Commits appends syncs old result acts new

-- what a datagram and a tick make of an end (`feeds` and `ticks` are its own words); it takes nothing else
abbrev pub end_takes : {S : Type 0} → (S → ℕ → Endpoint → List ℕ → ℕ → S → Type 0) → (S → ℕ → ℕ → Bool → S → Type 0)
    → S → Input → S → Type 0
end_takes feeds ticks s (Feed now from bytes word) n = feeds s now from bytes word n
end_takes feeds ticks s (Tick now word) n = (did : Bool) × ticks s now word did n
end_takes feeds ticks s (Set now path format body) n = ⊥
end_takes feeds ticks s (Remove now path) n = ⊥
end_takes feeds ticks s (Delay path ms) n = ⊥
end_takes feeds ticks s (Plain path) n = ⊥
end_takes feeds ticks s (Refuse now from bytes word code) n = ⊥
end_takes feeds ticks s (Forget peer) n = ⊥

-- what a datagram that is taken makes of it (`waiting` and `gives` are its own words): the first that waited
abbrev pub end_gives : {S : Type 0} → (S → List Packet) → (S → Packet → S → Type 0) → S → Packet → S → Type 0
end_gives waiting gives s p n = (waiting s ≡ p ∷ waiting n) × gives s p n

module _ {S F : Type 0} (takes : S → Input → S → Type 0) (gives : S → Packet → S → Type 0)
    (appends : F → List ℕ → Bool → F → Type 0) (syncs : F → Bool → F → Type 0) where
  -- one call, and what it does (`takes` and `gives` are what the end does)
  pub data Does (old new : Journal S F) : List Act → Type 0 where
    noted : (input : Input) → IsNoted old input new → takes old.end input new.end → Does old new (Takes input ∷ [])
    given : (packet : Packet) → IsTaken old new → gives old.end packet new.end → Does old new (Gives packet ∷ [])
    committed : (result : Result (Unit {0}) CommitError) (acts : List Act) → Commits appends syncs old result acts new
        → Does old new acts

  -- calls, and all that they do, the newest act first
  pub data Runs (start : Journal S F) : List Act → Journal S F → Type 0 where
    begins : Runs start [] start
    further : (t : List Act) (between : Journal S F) (acts : List Act) (new : Journal S F)
        → Runs start t between → Does between new acts → Runs start (acts ++ t) new
