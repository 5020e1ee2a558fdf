-- A run, and a record of the same: each datagram and each report stands in it behind the input that made it.
use Rattle.std.specs.Prelude.{◌≡◌, ◌==◌, ℕ, Bool, true, false, Option, None, List, [], ◌∷◌, ◌++◌, if◌then◌else◌}
use Rattle.std.specs.Prelude.{option_to_list}
use Rattle.coap_types.specs.Past.{Always, Ever}
use Rattle.coap_layer.specs.Trace.{Packet}
use Rattle.coap_client.specs.Law as client_law
use Rattle.coap_client.specs.Trace as C
use Rattle.coap_server.specs.Law as server_law
use Rattle.coap_server.specs.Trace as S
use Rattle.coap_record.specs.Events.{Config, Event}
use Rattle.coap_record.specs.Record.{Entry, OfClient, OfServer, RecordOf, Turn, client_of, entries_of, server_trace}
use Rattle.coap_promise.specs.Clocks.{Clocks, Legal}
use Rattle.coap_order.specs.Inputs.{is_client_input, is_server_input}
use Rattle.coap_order.specs.Run.{client_waits, reports_wait, server_waits}

-- the inputs of both ends, with their answers, in their order
abbrev pub is_input : Entry → Bool
is_input (OfClient c) = is_client_input c
is_input (OfServer c) = is_server_input c

abbrev pub inputs_of : List Entry → List Entry
inputs_of [] = []
inputs_of (e ∷ past) = if is_input e then e ∷ inputs_of past else inputs_of past

-- the datagrams and the reports that were taken, the oldest first

abbrev pub out_of_client : C.Call → Option Packet
out_of_client (C.NextOut answer) = answer
out_of_client _ = None

abbrev pub out_of_server : S.Call → Option Packet
out_of_server (S.NextOut answer) = answer
out_of_server _ = None

abbrev pub report_of : C.Call → Option C.Reported
report_of (C.NextReport answer) = answer
report_of _ = None

abbrev pub taken_of : {X Y : Type 0} → (X → Option Y) → List X → List Y
taken_of f [] = []
taken_of f (x ∷ past) = taken_of f past ++ option_to_list (f x)

-- some of a list, in its order; of what is left out P holds
pub data Part {X : Type 0} (P : X → Type 0) : List X → List X → Type 0 where
  none : Part P [] []
  keeps : (x : X) (some all : List X) → Part P some all → Part P (x ∷ some) (x ∷ all)
  leaves : (x : X) (some all : List X) → P x → Part P some all → Part P some (x ∷ all)

-- an observation of this number was forgotten
abbrev pub forgets_it : ℕ → C.Call → Bool
forgets_it number (C.Forgets n kept true) = number == n
forgets_it number _ = false

-- the turn of a call: the call itself, where it is an input, and behind it what is taken
pub record IsTurnOf (e : Entry) (turn : Turn) : Type 0 where
  pub takings : List Entry
  pub take : Always (λ past x. is_input x ≡ false) takings
  pub is : turn.entries ≡ takings ++ (if is_input e then e ∷ [] else [])

module _ (config : Config) where
  -- The same inputs, answered alike; the server holds the same, and so does the client, but for its reports. What is
  -- given out in the record was taken in the run or waits there; and so is what is reported, but for what waited of an
  -- observation when that was forgotten.
  pub record IsAlike (run all : List Entry) : Type 0 where
    pub inputs : inputs_of all ≡ inputs_of run
    pub server_keeps : server_law.own_of config.limits config.server_szx (server_trace config all)
        ≡ server_law.own_of config.limits config.server_szx (server_trace config run)
    pub client_keeps : client_law.own_of config.client_sizes (client_of all)
        ≡ record (client_law.own_of config.client_sizes (client_of run)) { reports = [] }
    pub client : taken_of out_of_client (client_of all)
        ≡ taken_of out_of_client (client_of run) ++ client_waits config (client_of run)
    pub server : taken_of out_of_server (server_trace config all)
        ≡ taken_of out_of_server (server_trace config run) ++ server_waits config (server_trace config run)
    pub reports : Part (λ (x : C.Reported). Ever (λ c. forgets_it x.number c ≡ true) (client_of run))
        (taken_of report_of (client_of run) ++ reports_wait config (client_of run))
        (taken_of report_of (client_of all))

  -- .. as far as each call has come: it has a turn of its own
  abbrev pub Reads : List Entry → List Turn → Type 0
  Reads [] [] = Unit {0}
  Reads [] (turn ∷ turns) = ⊥
  Reads (e ∷ run) [] = ⊥
  Reads (e ∷ run) (turn ∷ turns) = Reads run turns × IsTurnOf e turn × IsAlike (e ∷ run) (entries_of (turn ∷ turns))

  -- a legal record of the run
  pub record HasRecord (c : Clocks) (run : List Entry) : Type 0 where
    pub events : List Event
    pub turns : List Turn
    pub is : RecordOf config events turns
    pub legal : Legal c config turns
    pub reads : Reads run turns
