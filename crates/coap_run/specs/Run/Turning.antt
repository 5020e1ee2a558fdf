-- What an event makes of the two ends and of the log.
use Rattle.std.specs.Prelude.{◌≡◌, ℕ, Bool, true, Option, List, [], ◌∷◌, ◌++◌, map, reverse}
use Rattle.coap_types.specs.Past.{Always, all_of}
use Rattle.coap_layer.specs.Trace.{Packet}
use Rattle.coap_client.specs.Trace as C
use Rattle.coap_server.specs.Trace as S
use Rattle.coap_exchange.specs.Endings.{all_taken}
use Rattle.coap_record.specs.Events.{Config, Event}
use Rattle.coap_record.specs.Legal.{Legal, MayCome}
use Rattle.coap_record.specs.Record.{Entry, OfClient, OfServer, Turn, given_by, Makes, entries_of, client_of}
use Rattle.coap_record.specs.Record.{server_trace}
use Rattle.coap_resource.specs.Content.{Content}
use Rattle.coap_run.specs.Run.Acts.{Moves, Acts}
use Rattle.coap_run.specs.Run.Ends.{ClientLed, ServerLed}
use Rattle.coap_run.specs.Run.Lacking.{MayLack, LacksWhereItMay}
use Rattle.coap_run.specs.declared.running.ends.ClientEnd.{ClientEnd}
use Rattle.coap_run.specs.declared.running.ends.ServerEnd.{ServerEnd}
use Rattle.coap_run.specs.Run.Log.{Log, Line, Begins, client_lines, server_lines, lines_in, lines_put, lines_upon}
use Rattle.coap_run.specs.Run.Log.{refused_line, log_of}
use Rattle.coap_record.specs.declared.addresses.Addresses.{Addresses}

-- the lines of a client's call, whatever came before it
abbrev pub of_client : Config → List C.Call → C.Call → List Line
of_client config past c = client_lines c

-- its trace, as a server has one by its config
abbrev pub client_trace : Config → List Entry → List C.Call
client_trace config all = client_of all

module _ (addresses : Addresses) {X S : Type 0} (led : Config → List X → S → Type 0) (of : X → Entry) (lines : Config
    → List X → X → List Line)
    (at : ℕ) where
  -- After the calls of its event an end makes these; then the log tells whether it met want of memory.
  pub record Ends (refused : Bool) (calls : List X) (old : S) (log : Log) (new : S) (left : Log) : Type 0 where
    pub between : Log
    pub acts : Acts addresses led of lines at calls old log new between
    pub ends : left ≡ lines_put (refused_line refused) between

-- .. it gives all that it has
pub record ClientEnds (addresses : Addresses) {E : Type 0} (led : Config → List C.Call → E → Type 0) (at : ℕ)
    (refused : Bool) (old : E)
    (log : Log) (new : E) (left : Log) : Type 0 where
  pub outs : List Packet
  pub reports : List C.Reported
  pub ends : Ends addresses led OfClient of_client at refused
      (all_taken C.NextReport reports ++ all_taken C.NextOut outs) old log new left

pub record ServerEnds (addresses : Addresses) {E : Type 0} (led : Config → List S.Call → E → Type 0)
    (lines : Config → List S.Call → S.Call → List Line) (at : ℕ) (refused : Bool) (old : E) (log : Log) (new : E)
    (left : Log) : Type 0 where
  pub outs : List Packet
  pub ends : Ends addresses led OfServer lines at refused (all_taken S.NextOut outs) old log new left

-- where an end met want of memory, its law lets it take some, whatever config it began with
module _ (addresses : Addresses) {X E : Type 0} (led : Config → List X → E → Type 0) (trace : Config → List Entry
    → List X) (past : List Turn) (event : Event) where
  abbrev pub EndLacks : Bool → E → List Entry → Type 0
  EndLacks refused old entries = (config : Config) → config.addresses ≡ addresses
      → led config (trace config (entries_of past)) old → refused ≡ true
      → MayLack config past event.at event.word event.what entries

-- a turn of the two ends, in a run whose turns so far are these
pub record Turned (addresses : Addresses) {E F : Type 0} (cled : Config → List C.Call → E → Type 0) (sled : Config
    → List S.Call → F → Type 0)
    (past : List Turn) (event : Event)
    (client : E) (server : F) (log : Log) (client' : E) (server' : F) (log' : Log) : Type 0 where
  pub refused : Bool
  pub entries : List Entry
  pub comes : MayCome addresses past event.at event.what
  pub makes : Makes addresses past event.at event.word event.what refused entries
  pub client_moves : (config : Config) (all : List Entry) → cled config (client_of all) client
      → cled config (client_of (entries ++ all)) client'
  pub server_moves : (config : Config) (all : List Entry) → sled config (server_trace config all) server
      → sled config (server_trace config (entries ++ all)) server'
  pub given : log'.given ≡ log.given ++ reverse (all_of (given_by addresses event.at) entries)
  pub lines : (config : Config) (all : List Entry) → config.addresses ≡ addresses → cled config (client_of all) client
      → sled config (server_trace config all) server
      → log'.lines ≡ log.lines ++ lines_in config all event.at refused entries
  pub lacks : (config : Config) → config.addresses ≡ addresses → cled config (client_of (entries_of past)) client
      → sled config (server_trace config (entries_of past)) server → refused ≡ true
      → MayLack config past event.at event.word event.what entries

-- .. of one end, whose calls tell these lines
pub record EndTurned (addresses : Addresses) {X E : Type 0} (led : Config → List X → E → Type 0) (of : X → Entry)
    (trace : Config → List Entry → List X) (tells : Config → List X → X → List Line) (past : List Turn) (event : Event)
    (old : E) (log : Log) (new : E) (left : Log) : Type 0 where
  pub refused : Bool
  pub calls : List X
  pub comes : MayCome addresses past event.at event.what
  pub makes : Makes addresses past event.at event.word event.what refused (map of calls)
  pub moves : Moves led old calls new
  pub given : left.given ≡ log.given ++ reverse (all_of (given_by addresses event.at) (map of calls))
  pub lines : (config : Config) (t : List X) → led config t old
      → left.lines ≡ log.lines ++ (Begins event.at ∷ (lines_upon (tells config) t calls ++ refused_line refused))
  pub lacks : EndLacks addresses led trace past event refused old (map of calls)

abbrev pub ClientTurned : (addresses : Addresses) {A : Type 0} → List Turn → Event → ClientEnd A → Log → ClientEnd A
    → Log → Type 0
ClientTurned addresses past event old log new left = EndTurned addresses ClientLed OfClient client_trace of_client past
    event old log new left

abbrev pub ServerTurned : (addresses : Addresses) {K A : Type 0} → (K → Content) → (List ℕ → Option ℕ) → List Turn
    → Event → ServerEnd K A → Log
    → ServerEnd K A → Log → Type 0
ServerTurned addresses content sender past event old log new left =
    EndTurned addresses (ServerLed content) OfServer server_trace (server_lines addresses sender) past event old log new
    left

-- the last moment
abbrev pub IsLast : List Turn → ℕ → Type 0
IsLast [] last = last ≡ 0
IsLast (t ∷ turns) last = last ≡ t.event.at

-- two ends, and a log, after these turns
pub record Stands {E F : Type 0} (cled : Config → List C.Call → E → Type 0) (sled : Config → List S.Call → F → Type 0)
    (config : Config) (events : List Event) (turns : List Turn)
    (client : E) (server : F) (log : Log) (last : ℕ) : Type 0 where
  pub events_are : map (λ (t : Turn). t.event) turns ≡ events
  pub made : Always (λ past t. Makes config.addresses past t.event.at t.event.word t.event.what t.refused t.entries)
      turns
  pub legal : Legal config turns
  pub lacks : LacksWhereItMay config turns
  pub client_led : cled config (client_of (entries_of turns)) client
  pub server_led : sled config (server_trace config (entries_of turns)) server
  pub log_is : log ≡ log_of config turns
  pub last_is : IsLast turns last
