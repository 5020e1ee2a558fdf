-- The calls of a record as a run: each stands at the instant of its turn.
use Rattle.std.specs.Prelude.{ℕ, if◌then◌else◌, nat_le, List, [], ◌∷◌, length}
use Rattle.coap_promise.specs.Clocks.{Clocks, Legal}
use Rattle.coap_record.specs.Events.{Config, Event}
use Rattle.coap_record.specs.Record.{RecordOf, Turn, entries_of}
use Rattle.coap_order.specs.Run.{LegalRun, RunOf}

-- The number of the turn of the call before which there were so many. What has no call yet stands in the last turn.
abbrev pub turn_at : List Turn → ℕ → ℕ
turn_at [] n = 0
turn_at (t ∷ past) n = if nat_le (length (entries_of past)) n then length past else turn_at past n

-- what the clocks show at the calls
abbrev pub at_calls : Clocks → List Turn → Clocks
at_calls c turns = record { client = λ n. c.client (turn_at turns n); server = λ n. c.server (turn_at turns n) }

pub record IsRun (c : Clocks) (config : Config) (turns : List Turn) : Type 0 where
  pub is : RunOf config (entries_of turns)
  pub legal : LegalRun config (at_calls c turns) (entries_of turns)

-- it is so of each legal record
abbrev pub RecordsAreRuns : Type 0
RecordsAreRuns = (c : Clocks) (config : Config) (events : List Event) (turns : List Turn) → RecordOf config events turns
    → Legal c config turns → IsRun c config turns
