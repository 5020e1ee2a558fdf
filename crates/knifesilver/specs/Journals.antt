-- The journal of a server, as C hands it in and is handed it.
use Rattle.std.specs.Prelude.{◌≡◌, ◌≢◌, ◌≤◌, ◌<◌, ◌⊎◌, ◌+◌, ◌^◌, ℕ, ℤ, pos, ⊤, Option, Some, None, List, [], ◌∷◌, ◌++◌}
use Rattle.std.specs.Prelude.{length, take}
use Rattle.coap_types.specs.declared.body_limit.TheConstants.{DEFAULT_BODY_LIMIT as default_limit}
use Rattle.coap_types.specs.declared.remembered.TheConstants.{DEFAULT_REMEMBERED as default_remembered}
use Rattle.coap_layer.specs.Trace.{Packet}
use Rattle.coap_layer.specs.declared.setup.Setup.{Setup}
use Rattle.coap_resource.specs.Base.{IsBase}
use Rattle.coap_resource.specs.Limits.{Limits}
use Rattle.coap_resource.specs.declared.tally.TheConstants.{MAX_CHANGES_PER_WINDOW as max_changes}
use Rattle.coap_server.specs.Led.{Led, State}
use Rattle.coap_journal.specs.Frames.{BeginsFrame, IsDamage, frame, frames}
use Rattle.coap_journal.specs.Records.{Begun, Record, record_bytes}
use Rattle.coap_journal.specs.declared.beginning.Beginning.{Beginning}
use Rattle.coap_journal.specs.declared.beginning.Life.{Life}
use Rattle.coap_replay.specs.Doing.{bodies}
use Rattle.coap_replay.specs.Refusing.{IsUnreadable, StopsAt}
use Rattle.coap_replay.specs.Replaying.{Replays, last_life, latest_moment}
use Rattle.coap_noted.specs.Notes.{Note, told_in}
use Rattle.coap_noted.specs.Opening.{IsOpened, IsUnopened}
use Rattle.coap_noted.specs.declared.opening.OpenError.{OpenError}
use Rattle.coap_noted.specs.declared.opening.OpenError.TheVariants as refusals
use Rattle.knifesilver.specs.declared.config.KsConfig.{KsConfig}
use Rattle.knifesilver.specs.declared.config.TheConstants.{USUAL_BLOCK as usual_block}
use Rattle.knifesilver.specs.declared.held.Held.{Held}
use Rattle.knifesilver.specs.declared.held.Held.TheVariants.{Server, Client, Names}
use Rattle.knifesilver.specs.declared.journal.KsLife.{KsLife}
use Rattle.knifesilver.specs.declared.seed.KsSeed.{KsSeed}
use Rattle.knifesilver.specs.declared.server.replaying.KsReplayed.{KsReplayed}
use Rattle.knifesilver.specs.Configs.{chosen}
use Rattle.knifesilver.specs.ServerHeld.{HoldsServerIn, notes_in}

-- a life of a server: the boot of its machine, how long that had been up, and the server's moment then
abbrev pub life_of : KsLife → Life
life_of life = record {
  boot = record { high = life.boot_high; low = life.boot_low };
  uptime = life.uptime;
  moment = record { 0 = life.moment };
}

-- the numbers of a configuration and a seed, as a journal begins with them
pub record IsBeginning (config : KsConfig) (seed : KsSeed) (b : Beginning) : Type 0 where
  pub block : 2 ^ (b.configuration.szx + 4) ≡ chosen usual_block config.block_size
  pub limit : b.configuration.limit ≡ chosen default_limit config.body_limit
  pub remembered : b.configuration.remembered ≡ chosen default_remembered config.remembered
  pub changes : b.configuration.changes ≡ chosen max_changes config.changes
  pub base : b.base ≡ config.base
  pub seed_is : b.seed ≡ record { word = seed.word; key0 = seed.key0; key1 = seed.key1 }

-- what is answered of a journal that isn't opened
abbrev pub opening_number : OpenError → ℕ
opening_number (refusals.Damaged at) = 145
opening_number refusals.NotBegun = 146
opening_number (refusals.OtherFormat format) = 147
opening_number (refusals.OtherLaw law) = 148
opening_number refusals.Unreadable = 149

-- .. of none that is opened
abbrev pub IsNoOpening : ℤ → Type 0
IsNoOpening answer =
    (answer ≢ pos 0) × (answer ≢ pos 145) × (answer ≢ pos 146) × (answer ≢ pos 147) × (answer ≢ pos 148)

-- the server that begins so, by its limits and by its setup
abbrev pub limits_of : Beginning → Limits
limits_of b = record { changes = b.configuration.changes; body = b.configuration.limit; base = b.base }

abbrev pub setup_of : Beginning → Setup
setup_of b = record { word = b.seed.word; remembered = b.configuration.remembered }

-- the frame of these bytes at this place stands at the front of the room
abbrev pub IsFramed : (place : ℕ) (body room : List ℕ) (len : ℕ) → Type 0
IsFramed place body room len = (len ≡ length (frame place body)) × (take len room ≡ frame place body)

-- .. or is longer than the room
abbrev pub IsFrameLong : (place : ℕ) (body : List ℕ) (room len : ℕ) → Type 0
IsFrameLong place body room len = (len ≡ length (frame place body)) × (room < len)

-- no frame holds so many bytes, or stands there
abbrev pub IsNoFrame : (place : ℕ) (body : List ℕ) → Type 0
IsNoFrame place body = (2 ^ 62 ≤ place) ⊎ (2 ^ 32 ≤ length body)

-- A file is the frames of a beginning and of records, and a torn rest. The server that is held began so and did these
-- records, and keeps notes, with no input; the last life and the latest moment are told.
pub record IsReplayed (file : List ℕ) (told : KsReplayed) (held : Option Held) : Type 0 where
  pub beginning : Beginning
  pub first : Life
  pub records : List Record
  pub out : List Packet
  pub tail : List ℕ
  pub start : State
  pub parts : file ≡ frames 0 (bodies (Begun beginning first ∷ records)) ++ tail
  pub end_is : told.end + length tail ≡ length file
  pub torn_is : told.torn ≡ length tail
  pub none : BeginsFrame told.end tail → ⊥
  pub undamaged : IsDamage told.end tail → ⊥
  pub fresh : Led (limits_of beginning) beginning.configuration.szx (setup_of beginning) [] start
  pub replays : HoldsServerIn (λ s. Replays start records out s) held
  pub life_is : life_of told.life ≡ last_life first records
  pub moment_is : told.moment ≡ latest_moment first.moment.0 records
  pub notes_are : notes_in held ≡ Some (record { moment = told.moment; taken = 0; inputs = [] })

-- A file is opened, and its server, which began so, stops at one of the frames behind the first one for this.
pub record StopsReplay (Refused : State → List ℕ → Type 0) (file : List ℕ) : Type 0 where
  pub beginning : Beginning
  pub first : Life
  pub place : ℕ
  pub further : List ℕ
  pub end : ℕ
  pub torn : ℕ
  pub opened : IsOpened file beginning first place further end torn
  pub start : State
  pub fresh : Led (limits_of beginning) beginning.configuration.szx (setup_of beginning) [] start
  pub stops : StopsAt Refused place start further

-- no server begins so: after no base, or with no number of changes that a window can take
abbrev pub IsNoServers : Beginning → Type 0
IsNoServers b = (IsBase b.base → ⊥) ⊎ ((1 ≤ b.configuration.changes) × (b.configuration.changes ≤ max_changes) → ⊥)

-- A file is opened, and no server begins as it says.
pub record BeginsNoServer (file : List ℕ) : Type 0 where
  pub beginning : Beginning
  pub first : Life
  pub place : ℕ
  pub further : List ℕ
  pub end : ℕ
  pub torn : ℕ
  pub opened : IsOpened file beginning first place further end torn
  pub none : IsNoServers beginning

-- Why a journal is unreadable: its first frame spells no beginning, or none that a server has; or a frame behind that
-- holds nothing that the server can do.
pub data IsUnreadableFile (file : List ℕ) : Type 0 where
  unopened : IsUnopened file refusals.Unreadable → IsUnreadableFile file
  no_server : BeginsNoServer file → IsUnreadableFile file
  stopped : StopsReplay IsUnreadable file → IsUnreadableFile file

-- what was taken is told: nothing, and the answer is 0; or the answer is 1, and the turn stands at the front of the room
abbrev pub NotedAnswers : ℤ → (room : List ℕ) (len : ℕ) → Option (List ℕ) → Type 0
NotedAnswers answer room len None = answer ≡ pos 0
NotedAnswers answer room len (Some turn) = (answer ≡ pos 1) × (len ≡ length turn) × (take len room ≡ turn)

-- .. or is longer than the room
abbrev pub IsTurnLong : (room len : ℕ) → Option (List ℕ) → Type 0
IsTurnLong room len None = ⊥
IsTurnLong room len (Some turn) = (len ≡ length turn) × (room < len)

-- the same server is held, whatever its notes
abbrev pub AreSameServer : Held → Held → Type 0
AreSameServer (Server s) (Server n) = n.server ≡ s.server
AreSameServer (Server s) (Client n) = ⊥
AreSameServer (Server s) (Names n) = ⊥
AreSameServer (Client c) (Server n) = ⊥
AreSameServer (Client c) (Client n) = ⊤
AreSameServer (Client c) (Names n) = ⊥
AreSameServer (Names t) (Server n) = ⊥
AreSameServer (Names t) (Client n) = ⊥
AreSameServer (Names t) (Names n) = ⊤

abbrev pub HoldSameServer : Option Held → Option Held → Type 0
HoldSameServer None None = ⊤
HoldSameServer None (Some n) = ⊥
HoldSameServer (Some h) None = ⊥
HoldSameServer (Some h) (Some n) = AreSameServer h n
