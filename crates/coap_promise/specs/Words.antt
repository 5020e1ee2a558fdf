-- What a record says: what is called, sent and reported, which request is served and applied, and what the server
-- holds.
use Rattle.std.specs.Prelude.{◌≡◌, ℕ, true, Option, Some, List}
use Rattle.coap_resource.specs.Content.{Held}
use Rattle.coap_client.specs.Trace.{Request, Reported}
use Rattle.coap_client.specs.Steps.{reports}
use Rattle.coap_client_laws.specs.Follows.Begins.{WasSent}
use Rattle.coap_client.specs.Law as C
use Rattle.coap_client_laws.specs.Follows.Order.{call_of}
use Rattle.coap_client.specs.Sendings.{Sending, WasTaken}
use Rattle.coap_server.specs.Law.{own_of}
use Rattle.coap_server.specs.Serving.{is_applied}
use Rattle.coap_server.specs.Follows.Holds.{held_at, changes}
use Rattle.coap_server.specs.Follows.Serves.{Serving, serving}
use Rattle.coap_record.specs.Events.{Config}
use Rattle.coap_record.specs.Record.{Entry, OfClient, OfServer, client_of, server_trace}

-- a call of this number and this request was taken
abbrev pub WasCalled : ℕ → Request → List Entry → Type 0
WasCalled number r past = WasTaken (record { number = number; request = r }) (client_of past)

module _ (config : Config) where
  -- this is reported here
  abbrev pub ReportsAt : Reported → List Entry → Entry → Type 0
  ReportsAt r past (OfClient c) = reports (C.own_of config.client_sizes (client_of past)) c ≡ Some r
  ReportsAt r past (OfServer c) = ⊥

  -- the client sent a request of this call under this token
  abbrev pub SentFor : ℕ → List ℕ → List Entry → Type 0
  SentFor number token all = (x : Sending) × WasSent config.client_sizes x (client_of all)
      × (call_of x.operation ≡ Some number) × (x.token ≡ token)

  -- the server serves this request here
  abbrev pub ServesAt : Serving → List Entry → Entry → Type 0
  ServesAt x past (OfClient c) = ⊥
  ServesAt x past (OfServer c) = serving (own_of config.limits config.server_szx (server_trace config past)) c ≡ Some x

  -- A request from the client's address, which is applied here, belongs to the call for which the client sent its
  -- token.
  pub record AppliesFor (number : ℕ) (all : List Entry) (past : List Entry) (e : Entry) : Type 0 where
    pub request : Serving
    pub here : ServesAt request past e
    pub applied : is_applied request.reply.code ≡ true
    pub from : request.asked.from ≡ config.addresses.client
    pub belongs : SentFor number request.asked.token all

  -- what the server holds at a path after these entries
  abbrev pub holds_at : List (List ℕ) → List Entry → Option Held
  holds_at path all = (own_of config.limits config.server_szx (server_trace config all)).store.holds path

  -- the last of its changes of that path, and the version of the last of all changes, counted from the base on
  abbrev pub last_at : List (List ℕ) → List Entry → Option Held
  last_at path all = held_at config.limits config.server_szx path (server_trace config all)

  abbrev pub changes_in : List Entry → ℕ
  changes_in all = changes config.limits config.server_szx (server_trace config all)
