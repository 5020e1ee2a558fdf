-- What holds of each legal run of many.
use Rattle.std.specs.Prelude.{List}
use Rattle.coap_many.specs.Clients.{Config}
use Rattle.coap_many.specs.Clocks.{Clocks}
use Rattle.coap_many.specs.Events.{Event}
use Rattle.coap_many.specs.Entries.{Entry, Turn, entries_of}
use Rattle.coap_many.specs.Record.{RecordOf}
use Rattle.coap_many.specs.Legal.{Legal}

-- it holds of each legal run of many, whatever the ends' clocks are, and of its entries

abbrev pub OfLegalRuns : (Config → List Turn → Type 0) → Type 0
OfLegalRuns Holds = (c : Clocks) (config : Config) (events : List Event) (turns : List Turn)
    → RecordOf config events turns
    → Legal c config turns → Holds config turns

abbrev pub InLegalRuns : (Config → List Entry → Type 0) → Type 0
InLegalRuns Holds = OfLegalRuns (λ config turns. Holds config (entries_of turns))
