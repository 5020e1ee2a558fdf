-- Runs in which datagrams come at any time, or never: none is too late, and the clocks of the ends run as they like,
-- but for that neither falls.
use Rattle.std.specs.Prelude.{◌≡◌, ◌≢◌, ◌≤◌, ◌<◌, ℕ, ◌^◌, length, List}
use Rattle.coap_types.specs.Past.{Always}
use Rattle.coap_promise.specs.Clocks.{Clocks, Shows}
use Rattle.coap_record.specs.Events.{Config, Event, What, Sets, Removes, TickServer, Deliver}
use Rattle.coap_record.specs.Events.{StrangerToClient, StrangerToServer}
use Rattle.coap_record.specs.Legal.{InRange, IsConfig}
use Rattle.coap_record.specs.Record.{Given, Entry, Turn, IsNumber, RecordOf, entries_of}
use Rattle.coap_record.specs.declared.addresses.Addresses.{Addresses}

pub record Rise (c : Clocks) : Type 0 where
  pub client : (i j : ℕ) → i ≤ j → c.client i ≤ c.client j
  pub server : (i j : ℕ) → i ≤ j → c.server i ≤ c.server j

-- The end that an event is for is handed what its clock shows. A datagram that comes was given out before, to an end; a
-- stranger has no end's address.
abbrev pub MayCome : Addresses → Clocks → List Turn → ℕ → What → Type 0
MayCome addresses c past at (Deliver number) = (g : Given) × IsNumber addresses number g past
    × Shows addresses c (length past) g.packet.to at
MayCome addresses c past at (StrangerToClient from bytes) =
    (from ≢ addresses.client) × (from ≢ addresses.server) × (c.client (length past) ≡ at)
MayCome addresses c past at (StrangerToServer from bytes) =
    (from ≢ addresses.client) × (from ≢ addresses.server) × (c.server (length past) ≡ at)
MayCome addresses c past at (Sets path format body) = c.server (length past) ≡ at
MayCome addresses c past at (Removes path) = c.server (length past) ≡ at
MayCome addresses c past at TickServer = c.server (length past) ≡ at
MayCome addresses c past at what = c.client (length past) ≡ at

pub record IsLegal (addresses : Addresses) (c : Clocks) (past : List Turn) (turn : Turn) : Type 0 where
  pub at : turn.event.at < 2 ^ 64
  pub word : turn.event.word < 2 ^ 64
  pub range : InRange turn.event.what
  pub comes : MayCome addresses c past turn.event.at turn.event.what

pub record Legal (c : Clocks) (config : Config) (turns : List Turn) : Type 0 where
  pub rise : Rise c
  pub range : IsConfig config
  pub events : Always (IsLegal config.addresses c) turns

-- it holds of each such run, of the calls that the two ends have in it
abbrev pub InRuns : (Config → List Entry → Type 0) → Type 0
InRuns Holds = (c : Clocks) (config : Config) (events : List Event) (turns : List Turn) → RecordOf config events turns
    → Legal c config turns → Holds config (entries_of turns)
