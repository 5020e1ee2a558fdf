-- What a smooth run says of its datagrams: each that is given out to an end is fed to it, at most 1,000 ms later.
use Rattle.std.specs.Prelude.{◌≡◌, ◌≤◌, ◌<◌, ◌+◌, List}
use Rattle.coap_types.specs.Past.{Ever, Sometime, Always, all_of}
use Rattle.coap_promise.specs.Delivery.{FedToServer, FedToClient}
use Rattle.coap_record.specs.Record.{Given, Entry, Turn, given_in}
use Rattle.coap_smooth.specs.Smooth.{max_age}
use Rattle.coap_record.specs.declared.addresses.Addresses.{Addresses}

-- in this turn an end is fed so, at most 1,000 ms after the datagram was given out
pub record FedWithin (Fed : Entry → Type 0) (g : Given) (past : List Turn) (turn : Turn) : Type 0 where
  pub fed : Ever Fed turn.entries
  pub from : g.at ≤ turn.event.at
  pub till : turn.event.at ≤ g.at + max_age

-- what was given out more than 1,000 ms ago
pub record IsPrompt (addresses : Addresses) (past : List Turn) (turn : Turn) : Type 0 where
  pub server : (g : Given) → Ever (λ h. h ≡ g) (all_of (given_in addresses) past) → g.packet.to ≡ addresses.server
      → g.at + max_age < turn.event.at
      → Sometime (FedWithin (FedToServer g.from g.packet.bytes) g) past
  pub client : (g : Given) → Ever (λ h. h ≡ g) (all_of (given_in addresses) past) → g.packet.to ≡ addresses.client
      → g.at + max_age < turn.event.at
      → Sometime (FedWithin (FedToClient g.from g.packet.bytes) g) past

abbrev pub AllPrompt : Addresses → List Turn → Type 0
AllPrompt addresses turns = Always (IsPrompt addresses) turns
