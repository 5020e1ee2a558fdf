-- A server that is made of its journal.
use Rattle.std.specs.Prelude.{◌≡◌, ◌+◌, ◌++◌, ℕ, List, [], length}
use Rattle.coap_layer.specs.Trace.{Packet}
use Rattle.coap_layer.specs.declared.setup.Setup.{Setup}
use Rattle.coap_resource.specs.Limits.{Limits}
use Rattle.coap_server.specs.Led.{Led, State}
use Rattle.coap_journal.specs.Frames.{around, frame, frames}
use Rattle.coap_journal.specs.Records.{Begun, Record, record_bytes}
use Rattle.coap_journal.specs.declared.beginning.Beginning.{Beginning}
use Rattle.coap_journal.specs.declared.beginning.Life.{Life}
use Rattle.coap_journal_file.specs.Wishes.{AgreesOn}
use Rattle.coap_journal_file.specs.declared.wishes.Wishes.{Wishes}
use Rattle.coap_replay.specs.Doing.{bodies}
use Rattle.coap_replay.specs.Replaying.{Replays, last_life, latest_moment}
use Rattle.coap_replay.specs.declared.replay.Replayed.{Replayed}

-- with what a server begins
abbrev pub limits_of : Beginning → Limits
limits_of b = record { changes = b.configuration.changes; body = b.configuration.limit; base = b.base }

abbrev pub setup_of : Beginning → Setup
setup_of b = record { word = b.seed.word; remembered = b.configuration.remembered }

-- the bytes at this place are the frames of records, which the server has done; and their last life and moment
pub record IsReplayed (place : ℕ) (bytes : List ℕ) (life : Life) (old : State) (r : Replayed) (new : State)
    : Type 0 where
  pub records : List Record
  pub out : List Packet
  pub bytes_are : bytes ≡ frames place (bodies records)
  pub ends : r.end ≡ place + length bytes
  pub replays : Replays old records out new
  pub life_is : r.life ≡ last_life life records
  pub latest_is : r.latest.0 ≡ latest_moment life.moment.0 records

-- the bytes are a first frame, as which the server began, and others, which it has done; and the words agree with it
pub record IsRevived (bytes : List ℕ) (wishes : Wishes) (beginning : Beginning) (r : Replayed) (s : State)
    : Type 0 where
  pub born : Life
  pub rest : List ℕ
  pub first : State
  pub bytes_are : bytes ≡ frame 0 (record_bytes (Begun beginning born)) ++ rest
  pub agrees : AgreesOn wishes beginning
  pub begins : Led (limits_of beginning) beginning.configuration.szx (setup_of beginning) [] first
  pub replayed : IsReplayed (around + length (record_bytes (Begun beginning born))) rest born first r s
