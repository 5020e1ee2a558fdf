-- Why a journal is not replayed.
use Rattle.std.specs.Prelude.{◌≡◌, ◌⊎◌, ◌<◌, ◌+◌, ℕ, false, None, List, [], ◌∷◌, ◌++◌, length}
use Rattle.coap_types.specs.declared.endpoint.Endpoint.{Endpoint}
use Rattle.coap_layer.specs.Trace as L
use Rattle.coap_layer.specs.Trace.{Packet}
use Rattle.coap_server.specs.Led.{State, Step}
use Rattle.coap_server.specs.Refusing.{is_error}
use Rattle.coap_server.specs.Trace.{Feeds, Silent}
use Rattle.coap_journal.specs.Frames.{frame, frames}
use Rattle.coap_journal.specs.Input.{Input, IsInput, Refuse, all_spelled, spelled}
use Rattle.coap_journal.specs.Numbers.{number}
use Rattle.coap_journal.specs.Records.{Record, Woke, record_bytes}
use Rattle.coap_journal.specs.Whole.{AreFrames}
use Rattle.coap_journal.specs.declared.beginning.Life.{Life}
use Rattle.coap_journal.specs.declared.reading.ReadError.{ReadError}
use Rattle.coap_journal.specs.declared.reading.ReadError.TheVariants as read
use Rattle.coap_replay.specs.declared.replay.ReplayError.{ReplayError}
use Rattle.coap_replay.specs.declared.replay.ReplayError.TheVariants.{Memory, Unreadable}
use Rattle.coap_replay.specs.Doing.{bodies}
use Rattle.coap_replay.specs.Replaying.{GivesOut, Replays, TakesAll}

-- what it is where a record can't be read
abbrev pub refusal_of : ReadError → ReplayError
refusal_of read.Memory = Memory
refusal_of read.Unreadable = Unreadable

-- A server has fewer datagrams to give out than these: after some none waits.
pub record GivesTooFew (old : State) (taken : ℕ) : Type 0 where
  pub out : List Packet
  pub left : State
  pub gives : GivesOut old out left
  pub none : left.layer.queue ≡ []
  pub fewer : length out < taken

-- The bytes are a turn before which more datagrams were taken than the server has to give.
pub record IsOfOther (old : State) (bytes : List ℕ) : Type 0 where
  pub moment : ℕ
  pub taken : ℕ
  pub inputs : List ℕ
  pub turn_is : bytes ≡ 9 ∷ (number moment ++ (number taken ++ inputs))
  pub few : GivesTooFew old taken

-- no input that was written stands at the front of the bytes
abbrev pub BeginsNone : List ℕ → Type 0
BeginsNone bytes = (input : Input) (rest : List ℕ) → IsInput input → bytes ≡ spelled input ++ rest → ⊥

-- What the bytes begin with is nothing that the server can take. No input that was written stands there; or a datagram
-- whose request was to be refused does, and the code is no error, or the datagram brings the server no request.
pub data IsNoInput (old : State) (bytes : List ℕ) : Type 0 where
  unwritten : BeginsNone bytes → IsNoInput old bytes
  no_error : (now : ℕ) (from : Endpoint) (xs : List ℕ) (word code : ℕ) (rest : List ℕ)
      → bytes ≡ spelled (Refuse now from xs word code) ++ rest → is_error code ≡ false → IsNoInput old bytes
  no_request : (now : ℕ) (from : Endpoint) (xs : List ℕ) (word code : ℕ) (rest : List ℕ) (up below : L.Answer)
      (new : State) → bytes ≡ spelled (Refuse now from xs word code) ++ rest
      → Step old (Feeds now from xs word up None Silent below) new → IsNoInput old bytes

-- The server takes the first inputs that the bytes spell. More bytes follow, which begin with nothing that it can take.
pub record StopsInside (old : State) (bytes : List ℕ) : Type 0 where
  pub inputs : List Input
  pub between : State
  pub takes : TakesAll old inputs between
  pub rest : List ℕ
  pub bytes_are : bytes ≡ all_spelled inputs ++ rest
  pub more : 0 < length rest
  pub none : IsNoInput between rest

-- The bytes are no turn, and no further life; or a turn with something among its inputs that the server can't take.
pub data IsUnreadable (old : State) (bytes : List ℕ) : Type 0 where
  no_record : ((moment taken : ℕ) (inputs : List ℕ) → bytes ≡ 9 ∷ (number moment ++ (number taken ++ inputs)) → ⊥)
      → ((life : Life) → bytes ≡ record_bytes (Woke life) → ⊥) → IsUnreadable old bytes
  no_inputs : (moment taken : ℕ) (inputs : List ℕ) (out : List Packet) (between : State)
      → bytes ≡ 9 ∷ (number moment ++ (number taken ++ inputs)) → GivesOut old out between → length out ≡ taken
      → StopsInside between inputs → IsUnreadable old bytes

-- The server does the records of the first frames, and then a frame holds what it is refused for.
pub record StopsAt (Refused : State → List ℕ → Type 0) (place : ℕ) (old : State) (bytes : List ℕ) : Type 0 where
  pub records : List Record
  pub out : List Packet
  pub between : State
  pub replays : Replays old records out between
  pub at : ℕ
  pub body : List ℕ
  pub rest : List ℕ
  pub bytes_are : bytes ≡ frames place (bodies records) ++ (frame at body ++ rest)
  pub stands : at ≡ place + length (frames place (bodies records))
  pub refused : Refused between body

-- Why not all of the bytes, the first at this place, is replayed: the server stops at a frame that it can't read, or
-- they aren't whole frames.
abbrev pub IsUnreplayed : (place : ℕ) → State → List ℕ → Type 0
IsUnreplayed place old bytes = StopsAt IsUnreadable place old bytes ⊎ (AreFrames place bytes → ⊥)
