-- What a run answers.
use Rattle.std.specs.Prelude.{◌≡◌, ℕ, Some, List, reverse, take, slice_get}
use Rattle.coap_record.specs.Events.{Config, Event}
use Rattle.coap_record.specs.LegalEvents.{MayHappen}
use Rattle.coap_record.specs.Legal.{Legal}
use Rattle.coap_record.specs.Record.{Turn, RecordOf}
use Rattle.coap_run.specs.Run.Lacking.{LacksWhereItMay}
use Rattle.coap_run.specs.Run.Log.{Log, log_of}

-- The log of the record of these events, the oldest first, each of which is legal in it. An input is refused memory
-- only where it may be.
pub record IsRunOf (config : Config) (events : List Event) (log : Log) : Type 0 where
  pub turns : List Turn
  pub made : RecordOf config (reverse events) turns
  pub legal : Legal config turns
  pub lacks : LacksWhereItMay config turns
  pub shows : log ≡ log_of config turns

-- the event of this number is the first that is not legal, in such a record of the events before it
pub record IsFirstWrong (config : Config) (events : List Event) (number : ℕ) : Type 0 where
  pub event : Event
  pub there : slice_get events number ≡ Some event
  pub turns : List Turn
  pub made : RecordOf config (reverse (take number events)) turns
  pub legal : Legal config turns
  pub lacks : LacksWhereItMay config turns
  pub wrong : MayHappen config.addresses turns event → ⊥
