-- An end and its journal: what goes into a file, and what may go out.
use Rattle.std.specs.Prelude.{◌≡◌, ◌⊎◌, ◌+◌, ◌-◌, ◌^◌, ◌≤◌, ◌<◌, ℕ, max, min}
use Rattle.std.specs.Prelude.{Bool, true, false, not, ◌&&◌, Option, Some, None}
use Rattle.std.specs.Prelude.{List, [], ◌∷◌, ◌++◌, length}
use Rattle.coap_journal.specs.Frames.{frame}
use Rattle.coap_journal.specs.Input.{Delay, Feed, Forget, Input, Plain, Refuse, Remove, Set, Tick, spelled}
use Rattle.coap_journal.specs.Numbers.{number}
use Rattle.coap_journaled.specs.Due.{IsNotYet}

-- the end and the file; where the next frame is to stand; how many datagrams were taken since the last one, the inputs
-- since then, spelled, and the latest moment of an input; when a tick is due; and whether a write or a sync has failed
pub record Journal (S F : Type 0) : Type 0 where
  pub end : S
  pub file : F
  pub place : ℕ
  pub taken : ℕ
  pub inputs : List ℕ
  pub moment : ℕ
  pub due : Option ℕ
  pub over : Bool

-- .. by what is seen of the end
abbrev pub shown : {E S F : Type 0} → (E → S) → Journal E F → Journal S F
shown state j = record {
  end = state j.end;
  file = j.file;
  place = j.place;
  taken = j.taken;
  inputs = j.inputs;
  moment = j.moment;
  due = j.due;
  over = j.over;
}

-- the moment of an input, if it has one
abbrev pub moment_of : Input → ℕ
moment_of (Feed now from bytes word) = now
moment_of (Tick now word) = now
moment_of (Set now path format body) = now
moment_of (Remove now path) = now
moment_of (Delay path ms) = 0
moment_of (Plain path) = 0
moment_of (Refuse now from bytes word code) = now
moment_of (Forget peer) = 0

-- An input is noted: the next frame will hold it.
pub record IsNoted {S F : Type 0} (old : Journal S F) (input : Input) (new : Journal S F) : Type 0 where
  pub going : old.over ≡ false
  pub left : new ≡ record old {
    end = new.end;
    inputs = old.inputs ++ spelled input;
    moment = max old.moment (moment_of input);
    due = new.due;
  }

-- A tick does nothing and isn't noted: none is due yet, or it is over.
abbrev pub Rests : {S F : Type 0} → Journal S F → ℕ → Type 0
Rests j now = (j.over ≡ true) ⊎ IsNotYet j.due now

abbrev pub is_empty : List ℕ → Bool
is_empty [] = true
is_empty (x ∷ xs) = false

-- Something may go out: each input is in the file, which was synced, and it isn't over.
abbrev pub is_open : {S F : Type 0} → Journal S F → Bool
is_open j = not j.over && is_empty j.inputs

-- how many datagrams can be counted
abbrev pub most : ℕ
most = 2 ^ 64 - 1

-- A datagram is taken, and counted.
pub record IsTaken {S F : Type 0} (old new : Journal S F) : Type 0 where
  pub free : is_open old ≡ true
  pub left : new ≡ record old { end = new.end; taken = min (old.taken + 1) most; due = new.due }

-- the turn that the next frame holds, and that frame
abbrev pub turn_in : {S F : Type 0} → Journal S F → List ℕ
turn_in j = 9 ∷ (number j.moment ++ (number j.taken ++ j.inputs))

abbrev pub next_frame : {S F : Type 0} → Journal S F → List ℕ
next_frame j = frame j.place (turn_in j)

-- The file can't hold the next frame: it stands too far on, or would end past the last place; its turn is too long; or
-- more datagrams were taken than can be counted.
pub data IsFull {S F : Type 0} (j : Journal S F) : Type 0 where
  far : 2 ^ 62 ≤ j.place → IsFull j
  long : 2 ^ 24 < length (turn_in j) → IsFull j
  many : most ≤ j.taken → IsFull j
  ends : 2 ^ 64 ≤ j.place + length (next_frame j) → IsFull j

-- the frame was written and synced
abbrev pub synced_to : {S F : Type 0} → Journal S F → F → Journal S F
synced_to j file = record j { file = file; place = j.place + length (next_frame j); taken = 0; inputs = [] }

-- a write or a sync failed
abbrev pub ended_with : {S F : Type 0} → Journal S F → F → Journal S F
ended_with j file = record j { file = file; over = true }
