-- No event makes an end of a run of many fault: whatever can come has a turn, however late it is and whatever the
-- clocks show.
use Rattle.std.specs.Prelude.{◌≡◌, ℕ, false, List, [], ◌∷◌, ◌++◌, map}
use Rattle.coap_types.specs.Past.{Always}
use Rattle.coap_record.specs.Record as W
use Rattle.coap_many.specs.Clients.{Config, IsOfClient, IsEnd}
use Rattle.coap_many.specs.Entries.{Entry, Turn, IsNumber}
use Rattle.coap_many.specs.Events.{Event, What, Acts, Deliver, StrangerToClient}
use Rattle.coap_many.specs.Legal.{IsConfig}
use Rattle.coap_many.specs.Record.{RecordOf}

-- Whatever event, at whatever moment. A client is one of the run's; a datagram that comes was given out before, to an
-- end.
abbrev pub CanCome : Config → List Turn → What → Type 0
CanCome config past (Acts who act) = IsOfClient config who
CanCome config past (Deliver number) = (g : W.Given) × IsNumber config number g past × IsEnd config g.packet.to
CanCome config past (StrangerToClient who from bytes) = IsOfClient config who
CanCome config past what = Unit {0}

abbrev pub AllCanCome : Config → List Turn → Type 0
AllCanCome config turns = Always (λ past t. CanCome config past t.event.what) turns

abbrev pub a_turn : Event → List Entry → Turn
a_turn event entries = record { event = event; refused = false; entries = entries }

abbrev pub events_of : List Turn → List Event
events_of turns = map (λ (t : Turn). t.event) turns

-- the record of one event more, in which nothing is refused
pub record HasTurn (config : Config) (turns : List Turn) (event : Event) : Type 0 where
  pub entries : List Entry
  pub made : RecordOf config (event ∷ events_of turns) (a_turn event entries ∷ turns)

-- Each configuration in range has a record of no event.
abbrev pub Begins : Type 0
Begins = (config : Config) → IsConfig config → RecordOf config [] []

-- At each position each event that can come has a turn in which nothing is refused, and the record goes on.
abbrev pub GoesOn : Config → List Turn → Type 0
GoesOn config turns = (later past : List Turn) → turns ≡ later ++ past → (event : Event)
    → CanCome config past event.what → HasTurn config past event

-- it holds of each record of what can come, legal or not
abbrev pub OfRecords : (Config → List Turn → Type 0) → Type 0
OfRecords Holds = (config : Config) (events : List Event) (turns : List Turn) → RecordOf config events turns
    → IsConfig config → AllCanCome config turns → Holds config turns
