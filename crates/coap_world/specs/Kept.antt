-- What a run answers, and what is promised of it.
use Rattle.std.specs.Prelude.{◌≡◌, List, reverse}
use Rattle.coap_record.specs.Events.{Config, Event}
use Rattle.coap_record.specs.Legal.{Legal}
use Rattle.coap_record.specs.Record.{Turn, RecordOf, entries_of}
use Rattle.coap_run.specs.Run.Log.{Log, log_of}
use Rattle.coap_promise.specs.Agrees.{Agrees}
use Rattle.coap_promise.specs.NoFault.{NoFault}
use Rattle.coap_world.specs.Run.Named.{EachNamed}

-- The log of the record of these events, the oldest first, each of which is legal in it: of each request that is
-- applied it names the call to which that belongs. And that record keeps the promise.
pub record IsRunOf (config : Config) (events : List Event) (log : Log) : Type 0 where
  pub turns : List Turn
  pub made : RecordOf config (reverse events) turns
  pub legal : Legal config turns
  pub shows : log ≡ log_of config turns
  pub named : EachNamed config (entries_of turns)
  pub keeps : Agrees config (entries_of turns)
  pub no_fault : NoFault config turns
