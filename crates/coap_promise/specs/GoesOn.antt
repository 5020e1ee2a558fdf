-- A record goes on with each legal event: no event is left without a turn, and so there are records of each list of
-- events that are legal one after the other.
use Rattle.std.specs.Prelude.{◌≡◌, false, List, [], ◌∷◌}
use Rattle.coap_types.specs.Past.{Always}
use Rattle.coap_record.specs.Events.{Config, Event}
use Rattle.coap_record.specs.Legal.{Legal}
use Rattle.coap_record.specs.LegalEvents.{MayHappen}
use Rattle.coap_record.specs.Record.{Entry, Turn, RecordOf}

-- a turn in which nothing is refused
abbrev pub turn_of : Event → List Entry → Turn
turn_of event entries = record { event = event; refused = false; entries = entries }

-- the record of one event more
pub record Follows (config : Config) (events : List Event) (turns : List Turn) (event : Event) : Type 0 where
  pub entries : List Entry
  pub made : RecordOf config (event ∷ events) (turn_of event entries ∷ turns)
  pub legal : Legal config (turn_of event entries ∷ turns)

abbrev pub GoesOn : Config → Type 0
GoesOn config = (events : List Event) (turns : List Turn) (event : Event) → RecordOf config events turns
    → Legal config turns → MayHappen config.addresses turns event
    → Follows config events turns event

-- a record in which nothing is refused
pub record Ran (config : Config) (events : List Event) (turns : List Turn) : Type 0 where
  pub made : RecordOf config events turns
  pub legal : Legal config turns
  pub all_made : Always (λ past t. t.refused ≡ false) turns

-- events that may happen one after the other
abbrev pub MayRun : Config → List Event → Type 0
MayRun config [] = Unit {0}
MayRun config (event ∷ events) = ((turns : List Turn) → Ran config events turns
    → MayHappen config.addresses turns event)
    × MayRun config events

abbrev pub HasRecord : Config → List Event → Type 0
HasRecord config events = (turns : List Turn) × Ran config events turns
