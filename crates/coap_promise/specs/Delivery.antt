-- What the datagrams of a legal run are: each that comes from an end's address was given out by that end, for the one
-- that it comes to, at most 100,000 ms before.
use Rattle.std.specs.Prelude.{◌≡◌, ◌≤◌, ℕ, ◌+◌, Option, Some, None, List}
use Rattle.coap_types.specs.declared.endpoint.Endpoint.{Endpoint}
use Rattle.coap_record.specs.Legal.{max_delivery}
use Rattle.coap_record.specs.Record.{Given, Entry, OfClient, OfServer, Turn, given_in}
use Rattle.coap_types.specs.Past.{Ever, Always, all_of}
use Rattle.coap_client.specs.Trace as C
use Rattle.coap_server.specs.Trace as S
use Rattle.coap_record.specs.declared.addresses.Addresses.{Addresses}

pub record GaveOut (from to : Endpoint) (bytes : List ℕ) (when : ℕ) (g : Given) : Type 0 where
  pub packet : g.packet ≡ record { to = to; bytes = bytes }
  pub by : g.from ≡ from
  pub early : g.at ≤ when
  pub young : when ≤ g.at + max_delivery

-- the datagram that arrives in a call of the server, and where it comes from
abbrev pub arrives : S.Call → Option (Endpoint × List ℕ)
arrives (S.Feeds now from bytes word up came h below) = Some (from, bytes)
arrives (S.Refuses now from bytes word code up p response below) = Some (from, bytes)
arrives c = None

-- these bytes arrive at the server, and at the client, from there
abbrev pub FedToServer : Endpoint → List ℕ → Entry → Type 0
FedToServer from bytes (OfClient c) = ⊥
FedToServer from bytes (OfServer c) = arrives c ≡ Some (from, bytes)

abbrev pub FedToClient : Endpoint → List ℕ → Entry → Type 0
FedToClient from bytes (OfClient c) =
    (now : _) × (word : _) × (up : _) × (settled : _) × (event : _) × (sent : _) × (token : _) × (kept : _)
    × (c ≡ C.Feeds now from bytes word up settled event sent token kept)
FedToClient from bytes (OfServer c) = ⊥

pub record IsFair (addresses : Addresses) (past : List Turn) (turn : Turn) : Type 0 where
  pub server : (bytes : List ℕ) → Ever (FedToServer addresses.client bytes) turn.entries
      → Ever (GaveOut addresses.client addresses.server bytes turn.event.at) (all_of (given_in addresses) past)
  pub client : (bytes : List ℕ) → Ever (FedToClient addresses.server bytes) turn.entries
      → Ever (GaveOut addresses.server addresses.client bytes turn.event.at) (all_of (given_in addresses) past)

abbrev pub AllFair : Addresses → List Turn → Type 0
AllFair addresses turns = Always (IsFair addresses) turns
