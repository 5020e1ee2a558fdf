-- Which events are legal, in the record of their run: no datagram comes more than 100,000 ms after it was given out,
-- and what comes from an end's address was given out by that end.
use Rattle.std.specs.Prelude.{◌≡◌, ◌≢◌, ◌⊎◌, ◌≤◌, ◌<◌, ℕ, ◌+◌, ◌^◌, [], ◌∷◌, length, IfSome, List, All}
use Rattle.coap_types.specs.declared.body_limit.TheConstants.{MAX_BODY_LIMIT as max_limit}
use Rattle.coap_types.specs.declared.endpoint.Endpoint.{Endpoint}
use Rattle.coap_types.specs.declared.remembered.TheConstants.{MAX_REMEMBERED as max_remembered}
use Rattle.coap_types.specs.declared.transmission.TheConstants.{MAX_LATENCY_MS as max_latency}
use Rattle.coap_layer.specs.declared.setup.Setup.{Setup}
use Rattle.coap_types.specs.Bytes.{AreBytes}
use Rattle.coap_types.specs.EntityTag.{AreTags}
use Rattle.coap_types.specs.Past.{Always}
use Rattle.coap_types.specs.Path.{IsPath}
use Rattle.coap_client.specs.Trace.{Request}
use Rattle.coap_server.specs.declared.limits.TheConstants.{MAX_DELAYS as max_delays, MAX_PLAINS as max_plains}
use Rattle.coap_server.specs.Trace.{Delay}
use Rattle.coap_resource.specs.Base.{IsBase}
use Rattle.coap_resource.specs.declared.tally.TheConstants.{MAX_CHANGES_PER_WINDOW as max_changes}
use Rattle.coap_record.specs.Record.{Given, Turn, IsNumber, Entry, RecordOf, entries_of}
use Rattle.coap_record.specs.Events.{Config, Event, What, Calls, Observes, Cancels, Forgets, Sets}
use Rattle.coap_record.specs.Events.{Removes, Deliver, StrangerToClient, StrangerToServer}
use Rattle.coap_record.specs.declared.addresses.Addresses.{Addresses}

-- a datagram is delivered at most MAX_LATENCY after it was given out
abbrev pub max_delivery : ℕ
max_delivery = max_latency

-- an address in range
pub record IsEndpoint (e : Endpoint) : Type 0 where
  pub four : length e.ip ≡ 4
  pub bytes : AreBytes e.ip
  pub port : e.port < 2 ^ 16

-- moments don't fall
abbrev pub NotBefore : List Turn → ℕ → Type 0
NotBefore [] at = Unit {0}
NotBefore (turn ∷ past) at = turn.event.at ≤ at

-- a datagram that was given out before, addressed to an end, and not too old; a stranger that has no end's address
abbrev pub MayCome : Addresses → List Turn → ℕ → What → Type 0
MayCome addresses past at (Deliver number) =
    (g : Given) × IsNumber addresses number g past × ((g.packet.to ≡ addresses.client)
    ⊎ (g.packet.to ≡ addresses.server))
    × (at ≤ g.at + max_delivery)
MayCome addresses past at (StrangerToClient from bytes) = (from ≢ addresses.client) × (from ≢ addresses.server)
MayCome addresses past at (StrangerToServer from bytes) = (from ≢ addresses.client) × (from ≢ addresses.server)
MayCome addresses past at what = Unit {0}

-- each number is in the range of its type, but for a stranger's datagram: that may be any list, from anywhere

pub record IsRequest (r : Request) : Type 0 where
  pub path : IsPath r.path
  pub format : IfSome r.format (λ f. f < 2 ^ 16)
  pub body : AreBytes r.body
  pub etags : AreTags r.etags
  pub if_match : AreTags r.if_match
  pub accept : IfSome r.accept (λ f. f < 2 ^ 16)

abbrev pub InRange : What → Type 0
InRange (Calls r) = IsRequest r
InRange (Observes path) = IsPath path
InRange (Cancels number) = number < 2 ^ 64
InRange (Forgets number) = number < 2 ^ 64
InRange (Sets path format body) = IsPath path × IfSome format (λ f. f < 2 ^ 16) × AreBytes body
InRange (Removes path) = IsPath path
InRange what = Unit {0}

pub record IsLegal (addresses : Addresses) (past : List Turn) (turn : Turn) : Type 0 where
  pub at : turn.event.at < 2 ^ 64
  pub word : turn.event.word < 2 ^ 64
  pub range : InRange turn.event.what
  pub later : NotBefore past turn.event.at
  pub comes : MayCome addresses past turn.event.at turn.event.what

abbrev pub AllLegal : Addresses → List Turn → Type 0
AllLegal addresses turns = Always (IsLegal addresses) turns

-- where the ends stand, the setups, sizes and limits with which the ends begin, how many changes a window takes, the
-- version after which the server's versions begin, at most 16 delays and at most 16 plain paths (profile)

-- a limit that can be chosen
abbrev pub IsLimit : ℕ → Type 0
IsLimit limit = (1 ≤ limit) × (limit ≤ max_limit)

pub record IsDelay (d : Delay) : Type 0 where
  pub path : IsPath d.path
  pub ms : d.ms < 2 ^ 64

-- a word of 64 bits, and a number of remembered messages that can be chosen
pub record IsSetup (setup : Setup) : Type 0 where
  pub word : setup.word < 2 ^ 64
  pub some : 1 ≤ setup.remembered
  pub few : setup.remembered ≤ max_remembered

-- two addresses, each in range
pub record AreAddresses (addresses : Addresses) : Type 0 where
  pub client : IsEndpoint addresses.client
  pub server : IsEndpoint addresses.server
  pub two : addresses.client ≢ addresses.server

pub record IsConfig (config : Config) : Type 0 where
  pub addresses : AreAddresses config.addresses
  pub client_setup : IsSetup config.client_setup
  pub client_szx : config.client_sizes.szx ≤ 6
  pub client_limit : IsLimit config.client_sizes.limit
  pub server_setup : IsSetup config.server_setup
  pub server_szx : config.server_szx ≤ 6
  pub some : 1 ≤ config.limits.changes
  pub limit : config.limits.changes ≤ max_changes
  pub server_limit : IsLimit config.limits.body
  pub base : IsBase config.limits.base
  pub delays : All IsDelay config.delays
  pub few : length config.delays ≤ max_delays
  pub plains : All IsPath config.plains
  pub few_plains : length config.plains ≤ max_plains

-- a configuration in range, and legal events
pub record Legal (config : Config) (turns : List Turn) : Type 0 where
  pub range : IsConfig config
  pub events : AllLegal config.addresses turns

-- it holds of each legal run
abbrev pub OfLegalRuns : (Config → List Turn → Type 0) → Type 0
OfLegalRuns Holds = (config : Config) (events : List Event) (turns : List Turn) → RecordOf config events turns
    → Legal config turns → Holds config turns

-- .. of the calls that the two ends have in it
abbrev pub InLegalRuns : (Config → List Entry → Type 0) → Type 0
InLegalRuns Holds = OfLegalRuns (λ config turns. Holds config (entries_of turns))
