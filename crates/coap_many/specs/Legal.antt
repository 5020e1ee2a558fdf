-- Which events are legal in a run of many: as in the world of one client, where an end is the server or any of the
-- clients, each with a clock of its own.
use Rattle.std.specs.Prelude.{◌≡◌, ◌≤◌, ◌<◌, ℕ, ◌+◌, ◌^◌, length, List}
use Rattle.coap_types.specs.Past.{Ever, Always}
use Rattle.coap_record.specs.Events as E
use Rattle.coap_record.specs.Legal as W
use Rattle.coap_record.specs.Record.{Given}
use Rattle.coap_many.specs.Clients.{Client, Config, IsClient, IsOfClient, IsEnd, world_of}
use Rattle.coap_many.specs.Clocks.{Clocks, AreClocks, Shows}
use Rattle.coap_many.specs.Events.{What, Acts, Sets}
use Rattle.coap_many.specs.Events.{Removes, Deliver, StrangerToClient, StrangerToServer}
use Rattle.coap_many.specs.Entries.{Turn, IsNumber}
use Rattle.coap_many.specs.Events.{act_of}

-- The end that an event is for is handed what its clock shows. A client is one of the run's. A datagram that comes was
-- given out before, to an end, by an end whose clock shows at most 100,000 ms more than it showed then; a stranger has
-- no end's address.
abbrev pub MayCome : Config → Clocks → List Turn → ℕ → What → Type 0
MayCome config c past at (Acts who act) = IsOfClient config who × (c.clients who (length past) ≡ at)
MayCome config c past at (Deliver number) =
    (g : Given) × IsNumber config number g past × Shows config c (length past) g.packet.to at
    × ((now : ℕ) × Shows config c (length past) g.from now × (now ≤ g.at + W.max_delivery))
MayCome config c past at (StrangerToClient who from bytes) =
    IsOfClient config who × (IsEnd config from → ⊥) × (c.clients who (length past) ≡ at)
MayCome config c past at (StrangerToServer from bytes) = (IsEnd config from → ⊥) × (c.server (length past) ≡ at)
MayCome config c past at what = c.server (length past) ≡ at

-- each number is in the range of its type
abbrev pub InRange : What → Type 0
InRange (Acts who act) = W.InRange (act_of act)
InRange (Sets path format body) = W.InRange (E.Sets path format body)
InRange (Removes path) = W.InRange (E.Removes path)
InRange (StrangerToClient who from bytes) = W.InRange (E.StrangerToClient from bytes)
InRange (StrangerToServer from bytes) = W.InRange (E.StrangerToServer from bytes)
InRange what = Unit {0}

pub record IsLegal (config : Config) (c : Clocks) (past : List Turn) (turn : Turn) : Type 0 where
  pub at : turn.event.at < 2 ^ 64
  pub word : turn.event.word < 2 ^ 64
  pub range : InRange turn.event.what
  pub comes : MayCome config c past turn.event.at turn.event.what

-- There is a client. The world of each client with the server is in range, so that its address is not the server's. No
-- two clients have one address.
pub record IsConfig (config : Config) : Type 0 where
  pub some : (k : Client) × IsClient config k
  pub each : (k : Client) → IsClient config k → W.IsConfig (world_of config k)
  pub apart : Always (λ others (k : Client). Ever (λ (x : Client). x.at ≡ k.at) others → ⊥) config.clients

-- a configuration in range, and legal events, by a clock of each end
pub record Legal (c : Clocks) (config : Config) (turns : List Turn) : Type 0 where
  pub clocks : AreClocks config c
  pub range : IsConfig config
  pub events : Always (IsLegal config c) turns
