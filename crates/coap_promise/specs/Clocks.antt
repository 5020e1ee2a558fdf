-- The clocks of the two ends of a run, and which events are legal by them. Each event has the moment that is shown by
-- the clock of the end that it is for: of a datagram's delivery that is the end that it is addressed to. No datagram
-- comes more than 100,000 ms after it was given out, by the clock of the end that gave it out.
use Rattle.std.specs.Prelude.{◌≡◌, ◌≢◌, ◌⊎◌, ◌≤◌, ◌<◌, ℕ, ◌+◌, ◌^◌, length, List}
use Rattle.coap_types.specs.Past.{Always}
use Rattle.coap_types.specs.declared.endpoint.Endpoint.{Endpoint}
use Rattle.coap_layer.specs.Clocks as layers
use Rattle.coap_record.specs.Events.{Config, Event, What, Sets, Removes, TickServer, Deliver}
use Rattle.coap_record.specs.Events.{StrangerToClient, StrangerToServer}
use Rattle.coap_record.specs.Legal.{max_delivery, InRange, IsConfig}
use Rattle.coap_record.specs.Record.{Given, Entry, Turn, IsNumber, RecordOf, entries_of}
use Rattle.coap_record.specs.declared.addresses.Addresses.{Addresses}

-- what the clock of each end shows at an event: at that before which there were so many
pub record Clocks : Type 0 where
  pub client : ℕ → ℕ
  pub server : ℕ → ℕ

-- the client's layer is the near one, the server's the far one
abbrev pub of_layers : Clocks → layers.Clocks
of_layers c = record { near = c.client; far = c.server }

-- Neither falls. While one shows so many milliseconds more, EXCHANGE_LIFETIME at most, the other one shows at most
-- 5,000 more than these: neither gains more than 5 s on the other in 247 s. What they show at first is free.
abbrev pub AreClocks : Clocks → Type 0
AreClocks c = layers.KeepPace (of_layers c)

-- the clock of this end shows this moment, at the event of this number
abbrev pub Shows : Addresses → Clocks → ℕ → Endpoint → ℕ → Type 0
Shows addresses c n end at = ((end ≡ addresses.client) × (c.client n ≡ at))
    ⊎ ((end ≡ addresses.server) × (c.server n ≡ at))

-- The end that an event is for is handed what its clock shows. A datagram that comes was given out before, to an end,
-- by an end whose clock shows at most 100,000 ms more than it showed then; a stranger has no end's address.
abbrev pub MayCome : Addresses → Clocks → List Turn → ℕ → What → Type 0
MayCome addresses c past at (Deliver number) =
    (g : Given) × IsNumber addresses number g past × Shows addresses c (length past) g.packet.to at
    × ((now : ℕ) × Shows addresses c (length past) g.from now × (now ≤ g.at + max_delivery))
MayCome addresses c past at (StrangerToClient from bytes) =
    (from ≢ addresses.client) × (from ≢ addresses.server) × (c.client (length past) ≡ at)
MayCome addresses c past at (StrangerToServer from bytes) =
    (from ≢ addresses.client) × (from ≢ addresses.server) × (c.server (length past) ≡ at)
MayCome addresses c past at (Sets path format body) = c.server (length past) ≡ at
MayCome addresses c past at (Removes path) = c.server (length past) ≡ at
MayCome addresses c past at TickServer = c.server (length past) ≡ at
MayCome addresses c past at what = c.client (length past) ≡ at

pub record IsLegal (addresses : Addresses) (c : Clocks) (past : List Turn) (turn : Turn) : Type 0 where
  pub at : turn.event.at < 2 ^ 64
  pub word : turn.event.word < 2 ^ 64
  pub range : InRange turn.event.what
  pub comes : MayCome addresses c past turn.event.at turn.event.what

-- a configuration in range, and legal events, by two clocks
pub record Legal (c : Clocks) (config : Config) (turns : List Turn) : Type 0 where
  pub clocks : AreClocks c
  pub range : IsConfig config
  pub events : Always (IsLegal config.addresses c) turns

-- it holds of each run that is legal by two clocks
abbrev pub OfLegalRuns : (Config → List Turn → Type 0) → Type 0
OfLegalRuns Holds = (c : Clocks) (config : Config) (events : List Event) (turns : List Turn)
    → RecordOf config events turns
    → Legal c config turns → Holds config turns

-- .. of the calls that the two ends have in it
abbrev pub InLegalRuns : (Config → List Entry → Type 0) → Type 0
InLegalRuns Holds = OfLegalRuns (λ config turns. Holds config (entries_of turns))
